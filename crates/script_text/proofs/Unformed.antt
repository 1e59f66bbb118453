-- Just the lines of no form are bad.
use Rattle.std.proofs.Common.{◌≡◌, ℕ, Bool, true, false, cond, not, ◌&&◌, List, [], ◌∷◌, length, Option, Some, None, Result, Ok, Err, is_some, refl, sym, ap, ◌∙◌, arith, nat_lt, inl, inr, suc}
use Rattle.std.specs.List.{list_any}
use Rattle.std.proofs.lemmas.Bool.{cases_lt, cond-true, cond-false, and_right, lt-ltb, le-ltb, le-leb, lt-leb, not-true}
use Rattle.fs_model.specs.Names.{is_zero}
use Rattle.script_text.specs.PathTexts.{path_of}
use Rattle.fs_model.specs.declared.command.Command.{Command}
use Rattle.fs_model.specs.declared.command.Command.TheVariants as made
use Rattle.fs_model.specs.declared.error.FsError.{FsError}
use Rattle.fs_model.specs.declared.error.FsError.TheVariants.{NoEntry, Exists, NotDirectory, IsDirectory, NotEmpty, Invalid, Busy, NameTooLong, TooLarge, NotLink, BadLine}
use Rattle.script_text.specs.declared.error.PathError.{PathError}
use Rattle.script_text.specs.declared.error.PathError.TheVariants.{Form as NoPath, Dot, LongName, LongPath, Memory}
use Rattle.fs_model.specs.declared.limits.TheConstants.{MAX_TARGET}
use Rattle.script_text.specs.declared.verb.Verb.{Verb}
use Rattle.script_text.specs.declared.verb.Verb.TheVariants as verb
use Rattle.script_text.specs.declared.grammar.TheConstants.{MAX_LINE}
use Rattle.script_text.specs.Words.{words, is_empty, two, three}
use Rattle.script_text.specs.Numbers.{number_of, id_of, mode_of, time_of}
use Rattle.script_text.specs.Escapes.{unescaped, bytes_of}
use Rattle.script_text.specs.Grammar.{◌>>=◌, formed, path_from, path, target, verb_of, only_path, with_path, mv, symlink, write, read, truncate, chmod, chown, utime, sync, sentence, command_in, command_of}
use Rattle.script_text.specs.Forms.{WordForm}
use Rattle.script_text.specs.Forms as form
use Rattle.script_text.specs.Forms.{has_form, have_forms, forms_of, fit_verb, are_command, is_formed, RefusesUnformed}

abbrev is_bad_error : FsError → Bool
is_bad_error BadLine = true
is_bad_error _ = false

abbrev is_bad : {A : Type 0} → Result A FsError → Bool
is_bad (Ok x) = false
is_bad (Err e) = is_bad_error e

-- a path or a target is refused by another error
path_good : {B : Type 0} (text : List ℕ) (f : List (List ℕ) → Result B FsError) → ((p : List (List ℕ)) → is_bad (f p) ≡ false) → is_bad (path text >>= f) ≡ false
path_good text f h = by (path_of text)
  where
    by : (r : Result (List (List ℕ)) PathError) → is_bad (path_from r >>= f) ≡ false
    by (Ok p) = h p
    by (Err NoPath) = refl
    by (Err Dot) = refl
    by (Err LongName) = refl
    by (Err LongPath) = refl
    by (Err Memory) = refl

target_good : {B : Type 0} (text : List ℕ) (f : List ℕ → Result B FsError) → ((t : List ℕ) → is_bad (f t) ≡ false) → is_bad (target text >>= f) ≡ false
target_good text f h = by (list_any is_zero text) (nat_lt MAX_TARGET (length text))
  where
    by : (zeros long : Bool) → is_bad (cond zeros (Err Invalid) (cond long (Err NameTooLong) (Ok text)) >>= f) ≡ false
    by true long = refl
    by false true = refl
    by false false = h text

-- words of their forms, two or three of them
forms2 : {A B C : Type 0} (o : Option A) (p : Option B) (f : A → B → Result C FsError) → ((x : A) (y : B) → is_bad (f x y) ≡ false)
    → is_bad (formed o >>= (λ x. formed p >>= (λ y. f x y))) ≡ not (is_some o && (is_some p && true))
forms2 (Some x) (Some y) f h = h x y
forms2 (Some x) None f h = refl
forms2 None p f h = refl

forms3 : {A B C D : Type 0} (o : Option A) (p : Option B) (q : Option C) (f : A → B → C → Result D FsError) → ((x : A) (y : B) (z : C) → is_bad (f x y z) ≡ false)
    → is_bad (formed o >>= (λ x. formed p >>= (λ y. formed q >>= (λ z. f x y z)))) ≡ not (is_some o && (is_some p && (is_some q && true)))
forms3 (Some x) (Some y) (Some z) f h = h x y z
forms3 (Some x) (Some y) None f h = refl
forms3 (Some x) None q f h = refl
forms3 None p q f h = refl

unequal : (fs : List WordForm) (ws : List (List ℕ)) → (length fs ≡ length ws → ⊥) → have_forms fs ws ≡ false
unequal [] [] ne = absurd (ne refl)
unequal [] (w ∷ ws) ne = refl
unequal (f ∷ fs) [] ne = refl
unequal (f ∷ fs) (w ∷ ws) ne = and_right (has_form f w) (have_forms fs ws) (unequal fs ws (λ e. ne (ap (λ n. suc n) e)))

miscounted : (fs : List WordForm) (ws : List (List ℕ)) → (length fs ≡ length ws → ⊥) → true ≡ not (have_forms fs ws)
miscounted fs ws ne = sym (ap not (unequal fs ws ne))

two_forms : {B : Type 0} (f g : WordForm) (next : List ℕ × List ℕ → Result B FsError) (ws : List (List ℕ)) → ((a b : List ℕ) → is_bad (next (a, b)) ≡ not (have_forms (f ∷ g ∷ []) (a ∷ b ∷ []))) → is_bad (two ws >>= next) ≡ not (have_forms (f ∷ g ∷ []) ws)
two_forms f g next [] h = refl
two_forms f g next (a ∷ []) h = miscounted (f ∷ g ∷ []) (a ∷ []) (λ e. omega arith)
two_forms f g next (a ∷ b ∷ []) h = h a b
two_forms f g next (a ∷ b ∷ c ∷ ws) h = miscounted (f ∷ g ∷ []) (a ∷ b ∷ c ∷ ws) (λ e. omega arith)

three_forms : {B : Type 0} (f g k : WordForm) (next : List ℕ × List ℕ × List ℕ → Result B FsError) (ws : List (List ℕ)) → ((a b c : List ℕ) → is_bad (next (a, b, c)) ≡ not (have_forms (f ∷ g ∷ k ∷ []) (a ∷ b ∷ c ∷ []))) → is_bad (three ws >>= next) ≡ not (have_forms (f ∷ g ∷ k ∷ []) ws)
three_forms f g k next [] h = refl
three_forms f g k next (a ∷ []) h = miscounted (f ∷ g ∷ k ∷ []) (a ∷ []) (λ e. omega arith)
three_forms f g k next (a ∷ b ∷ []) h = miscounted (f ∷ g ∷ k ∷ []) (a ∷ b ∷ []) (λ e. omega arith)
three_forms f g k next (a ∷ b ∷ c ∷ []) h = h a b c
three_forms f g k next (a ∷ b ∷ c ∷ d ∷ ws) h = miscounted (f ∷ g ∷ k ∷ []) (a ∷ b ∷ c ∷ d ∷ ws) (λ e. omega arith)

-- a path alone
path_forms : (make : List (List ℕ) → Command) (ws : List (List ℕ)) → is_bad (with_path make ws) ≡ not (have_forms (form.path ∷ []) ws)
unfolding only_path
path_forms make [] = refl
path_forms make (a ∷ []) = by (unescaped a)
  where
    by : (o : Option (List ℕ)) → is_bad ((formed o >>= (λ text. path text)) >>= (λ p. Ok (make p))) ≡ not (is_some o && true)
    by (Some text) = path_good text (λ p. Ok (make p)) (λ p. refl)
    by None = refl
path_forms make (a ∷ b ∷ ws) = miscounted (form.path ∷ []) (a ∷ b ∷ ws) (λ e. omega arith)

sentence_forms : (v : Verb) (ws : List (List ℕ)) → is_bad (sentence v ws) ≡ not (have_forms (forms_of v) ws)
unfolding sentence mv symlink write read truncate chmod chown utime sync
sentence_forms verb.List ws = path_forms made.List ws
sentence_forms verb.Stat ws = path_forms made.Stat ws
sentence_forms verb.Mkdir ws = path_forms made.Mkdir ws
sentence_forms verb.Rmdir ws = path_forms made.Rmdir ws
sentence_forms verb.Mkfile ws = path_forms made.Mkfile ws
sentence_forms verb.Rm ws = path_forms made.Rm ws
sentence_forms verb.Readlink ws = path_forms made.Readlink ws
sentence_forms verb.Mv ws =
    two_forms form.path form.path (λ both. formed (unescaped both.0) >>= (λ x. formed (unescaped both.1) >>= (λ y. path x >>= (λ p. path y >>= (λ q. Ok (made.Mv p q)))))) ws
    (λ a b. forms2 (unescaped a) (unescaped b) (λ x y. path x >>= (λ p. path y >>= (λ q. Ok (made.Mv p q))))
    (λ x y. path_good x (λ p. path y >>= (λ q. Ok (made.Mv p q))) (λ p. path_good y (λ q. Ok (made.Mv p q)) (λ q. refl))))
sentence_forms verb.Symlink ws =
    two_forms form.target form.path (λ both. formed (unescaped both.0) >>= (λ x. formed (unescaped both.1) >>= (λ y. target x >>= (λ t. path y >>= (λ q. Ok (made.Symlink t q)))))) ws
    (λ a b. forms2 (unescaped a) (unescaped b) (λ x y. target x >>= (λ t. path y >>= (λ q. Ok (made.Symlink t q))))
    (λ x y. target_good x (λ t. path y >>= (λ q. Ok (made.Symlink t q))) (λ t. path_good y (λ q. Ok (made.Symlink t q)) (λ q. refl))))
sentence_forms verb.Write ws =
    three_forms form.path form.number form.hex (λ all. formed (unescaped all.0) >>= (λ x. formed (number_of all.1) >>= (λ y. formed (bytes_of all.2) >>= (λ z. path x >>= (λ p. Ok (made.Write p y z)))))) ws
    (λ a b c. forms3 (unescaped a) (number_of b) (bytes_of c) (λ x y z. path x >>= (λ p. Ok (made.Write p y z))) (λ x y z. path_good x (λ p. Ok (made.Write p y z)) (λ p. refl)))
sentence_forms verb.Read ws =
    three_forms form.path form.number form.number (λ all. formed (unescaped all.0) >>= (λ x. formed (number_of all.1) >>= (λ y. formed (number_of all.2) >>= (λ z. path x >>= (λ p. Ok (made.Read p y z)))))) ws
    (λ a b c. forms3 (unescaped a) (number_of b) (number_of c) (λ x y z. path x >>= (λ p. Ok (made.Read p y z))) (λ x y z. path_good x (λ p. Ok (made.Read p y z)) (λ p. refl)))
sentence_forms verb.Truncate ws =
    two_forms form.path form.number (λ both. formed (unescaped both.0) >>= (λ x. formed (number_of both.1) >>= (λ y. path x >>= (λ p. Ok (made.Truncate p y))))) ws
    (λ a b. forms2 (unescaped a) (number_of b) (λ x y. path x >>= (λ p. Ok (made.Truncate p y))) (λ x y. path_good x (λ p. Ok (made.Truncate p y)) (λ p. refl)))
sentence_forms verb.Chmod ws =
    two_forms form.path form.mode (λ both. formed (unescaped both.0) >>= (λ x. formed (mode_of both.1) >>= (λ y. path x >>= (λ p. Ok (made.Chmod p y))))) ws
    (λ a b. forms2 (unescaped a) (mode_of b) (λ x y. path x >>= (λ p. Ok (made.Chmod p y))) (λ x y. path_good x (λ p. Ok (made.Chmod p y)) (λ p. refl)))
sentence_forms verb.Chown ws =
    three_forms form.path form.id form.id (λ all. formed (unescaped all.0) >>= (λ x. formed (id_of all.1) >>= (λ y. formed (id_of all.2) >>= (λ z. path x >>= (λ p. Ok (made.Chown p y z)))))) ws
    (λ a b c. forms3 (unescaped a) (id_of b) (id_of c) (λ x y z. path x >>= (λ p. Ok (made.Chown p y z))) (λ x y z. path_good x (λ p. Ok (made.Chown p y z)) (λ p. refl)))
sentence_forms verb.Utime ws =
    three_forms form.path form.time form.time (λ all. formed (unescaped all.0) >>= (λ x. formed (time_of all.1) >>= (λ y. formed (time_of all.2) >>= (λ z. path x >>= (λ p. Ok (made.Utime p y z)))))) ws
    (λ a b c. forms3 (unescaped a) (time_of b) (time_of c) (λ x y z. path x >>= (λ p. Ok (made.Utime p y z))) (λ x y z. path_good x (λ p. Ok (made.Utime p y z)) (λ p. refl)))
sentence_forms verb.Sync [] = refl
sentence_forms verb.Sync (w ∷ ws) = refl

words_forms : (ws : List (List ℕ)) → is_bad (command_in ws) ≡ not (are_command ws)
unfolding command_in
words_forms [] = refl
words_forms (name ∷ ws) = by (verb_of name)
  where
    by : (o : Option Verb) → is_bad (formed o >>= (λ v. sentence v ws)) ≡ not (fit_verb o ws)
    by (Some v) = sentence_forms v ws
    by None = refl

line_forms : (line : List ℕ) → is_bad (command_of line) ≡ not (is_formed line)
unfolding command_of
line_forms line = elim (cases_lt MAX_LINE (length line)) [
  | inl long ↦ ap is_bad (cond-true (nat_lt MAX_LINE (length line)) _ _ (lt-ltb MAX_LINE (length line) long)) ∙ sym (ap (λ b. not (b && rest)) (lt-leb (length line) MAX_LINE long))
  | inr short ↦
      ap is_bad (cond-false (nat_lt MAX_LINE (length line)) _ _ (le-ltb MAX_LINE (length line) short)) ∙ by (list_any is_empty (words line))
      ∙ sym (ap (λ b. not (b && rest)) (le-leb (length line) MAX_LINE short))
]
  where
    rest : Bool
    rest = not (list_any is_empty (words line)) && are_command (words line)

    by : (empty : Bool) → is_bad (cond empty (Err BadLine) (command_in (words line))) ≡ not (not empty && are_command (words line))
    by true = refl
    by false = words_forms (words line)

bad_from_test : {A : Type 0} (r : Result A FsError) → is_bad r ≡ true → r ≡ Err BadLine
bad_from_test (Ok x) h = cc
bad_from_test (Err BadLine) h = refl
bad_from_test (Err NoEntry) h = cc
bad_from_test (Err Exists) h = cc
bad_from_test (Err NotDirectory) h = cc
bad_from_test (Err IsDirectory) h = cc
bad_from_test (Err NotEmpty) h = cc
bad_from_test (Err Invalid) h = cc
bad_from_test (Err Busy) h = cc
bad_from_test (Err NameTooLong) h = cc
bad_from_test (Err TooLarge) h = cc
bad_from_test (Err NotLink) h = cc

-- just the lines of no form are bad
pub refuses_unformed : RefusesUnformed
refuses_unformed line = (
  λ e. not-true (is_formed line) (sym (line_forms line) ∙ ap is_bad e),
  λ h. bad_from_test (command_of line) (line_forms line ∙ ap not h),
)
