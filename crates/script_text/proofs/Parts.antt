-- Commands in terms of what their words say together.
use Rattle.std.proofs.Common.{◌≡◌, ℕ, List, [], ◌∷◌, Option, Some, None, Result, Ok, Err, refl, ◌∙◌}
use Rattle.std.specs.Prelude.{IsErrAnd}
use Rattle.fs_model.specs.declared.command.Command.TheVariants as made
use Rattle.fs_model.specs.declared.error.FsError.{FsError}
use Rattle.script_text.specs.declared.error.LineError.{LineError}
use Rattle.script_text.specs.declared.error.LineError.TheVariants.{Memory, Bad}
use Rattle.script_text.specs.Answers.{IsRefusal, Gives}
use Rattle.script_text.specs.Words.{two, three}
use Rattle.script_text.specs.Numbers.{number_of, id_of, mode_of, time_of}
use Rattle.script_text.specs.Escapes.{unescaped, bytes_of}
use Rattle.script_text.specs.Grammar.{◌>>=◌, formed, path, target, mv, symlink, write, read, truncate, chmod, chown, utime}
use Rattle.script_text.specs.Parts.{two_texts, text_before, path_before, both}

-- a refusal of the first step, which a `?` hands on
pub handed_on : {A B C : Type 0} (view : A → C) (s : Result A LineError) (r : Result B FsError) (f : B → Result C FsError) (e : LineError)
    → IsErrAnd s (λ d. d ≡ e) → IsRefusal r e → Gives view s (r >>= f)
handed_on view (Ok x) r f e bad h = absurd bad
handed_on view (Err d) (Ok x) f Memory bad h = rw bad tt
handed_on view (Err d) (Ok x) f (Bad e) bad h = absurd (cc)
handed_on view (Err d) (Err g) f Memory bad h = rw bad tt
handed_on view (Err d) (Err g) f (Bad e) bad h = let same : g ≡ e = cc in rw (bad, same) refl

-- steps that are the same one by one
same_then : {A B : Type 0} (r : Result A FsError) (f g : A → Result B FsError) → ((x : A) → f x ≡ g x) → (r >>= f) ≡ (r >>= g)
same_then (Ok x) f g h = h x
same_then (Err e) f g h = refl

-- two texts in one
two_texts_form : {C : Type 0} (o p : Option (List ℕ)) (f : List ℕ → List ℕ → Result C FsError)
    → (formed o >>= (λ first. formed p >>= (λ second. f first second)))
    ≡ ((formed o >>= (λ first. formed p >>= (λ second. let texts : List ℕ × List ℕ = (first, second) in Ok texts))) >>= (λ texts. f texts.0 texts.1))
two_texts_form (Some a) (Some b) f = refl
two_texts_form (Some a) None f = refl
two_texts_form None p f = refl

-- the texts of two words come first
texts_first : {C : Type 0} (ws : List (List ℕ)) (f : List ℕ → List ℕ → Result C FsError)
    → (two ws >>= (λ both. formed (unescaped both.0) >>= (λ first. formed (unescaped both.1) >>= (λ second. f first second)))) ≡ (two_texts ws >>= (λ texts. f texts.0 texts.1))
texts_first [] f = refl
texts_first (a ∷ []) f = refl
texts_first (a ∷ b ∷ []) f = two_texts_form (unescaped a) (unescaped b) f
texts_first (a ∷ b ∷ c ∷ ws) f = refl

-- the text of a word and a word of another form in one
text_form : {A C : Type 0} (o : Option (List ℕ)) (p : Option A) (f : List ℕ → A → Result C FsError)
    → (formed o >>= (λ text. formed p >>= (λ x. f text x))) ≡ ((formed o >>= (λ text. formed p >>= (λ x. let all : List ℕ × A = (text, x) in Ok all))) >>= (λ all. f all.0 all.1))
text_form (Some text) (Some x) f = refl
text_form (Some text) None f = refl
text_form None p f = refl

-- the text of a word before a word of another form
text_first : {A C : Type 0} (word : List ℕ) (others : Option A) (f : List ℕ → A → Result C FsError)
    → (formed (unescaped word) >>= (λ text. formed others >>= (λ x. f text x))) ≡ (text_before word others >>= (λ all. f all.0 all.1))
text_first word others f = text_form (unescaped word) others f

-- the path of a text and what stands behind it in one
path_form : {A C : Type 0} (r : Result (List ℕ × A) FsError) (f : List (List ℕ) → A → Result C FsError)
    → (r >>= (λ all. path all.0 >>= (λ at. f at all.1)))
    ≡ ((r >>= (λ all. path all.0 >>= (λ at. let said : List (List ℕ) × A = (at, all.1) in Ok said))) >>= (λ said. f said.0 said.1))
path_form {A = A} (Ok all) f = by (path all.0)
  where
    by : (r : Result (List (List ℕ)) FsError) → (r >>= (λ at. f at all.1)) ≡ ((r >>= (λ at. let said : List (List ℕ) × A = (at, all.1) in Ok said)) >>= (λ said. f said.0 said.1))
    by (Ok at) = refl
    by (Err e) = refl
path_form (Err e) f = refl

-- the path of a word before a word of another form
path_first : {A C : Type 0} (word : List ℕ) (others : Option A) (f : List (List ℕ) → A → Result C FsError)
    → (formed (unescaped word) >>= (λ text. formed others >>= (λ x. path text >>= (λ at. f at x)))) ≡ (path_before word others >>= (λ all. f all.0 all.1))
path_first word others f = text_first word others (λ text x. path text >>= (λ at. f at x)) ∙ path_form (text_before word others) f

-- the path of a word before two such words
path_first_of_two : {A B C : Type 0} (word : List ℕ) (a : Option A) (b : Option B) (f : List (List ℕ) → A → B → Result C FsError)
    → (formed (unescaped word) >>= (λ text. formed a >>= (λ x. formed b >>= (λ y. path text >>= (λ at. f at x y))))) ≡ (path_before word (both a b) >>= (λ all. f all.0 all.1.0 all.1.1))
path_first_of_two {A = A} {B = B} word a b f = forms_in_one a b ∙ path_first word (both a b) (λ at all. f at all.0 all.1)
  where
    forms_in_one : (a : Option A) (b : Option B)
        → (formed (unescaped word) >>= (λ text. formed a >>= (λ x. formed b >>= (λ y. path text >>= (λ at. f at x y)))))
        ≡ (formed (unescaped word) >>= (λ text. formed (both a b) >>= (λ all. path text >>= (λ at. f at all.0 all.1))))
    forms_in_one (Some x) (Some y) = refl
    forms_in_one (Some x) None = refl
    forms_in_one None b = refl

pub mv_by_parts : (ws : List (List ℕ)) → mv ws ≡ (two_texts ws >>= (λ texts. path texts.0 >>= (λ from. path texts.1 >>= (λ to. Ok (made.Mv from to)))))
unfolding mv
mv_by_parts ws = texts_first ws (λ first second. path first >>= (λ from. path second >>= (λ to. Ok (made.Mv from to))))

pub symlink_by_parts : (ws : List (List ℕ)) → symlink ws ≡ (two_texts ws >>= (λ texts. target texts.0 >>= (λ to. path texts.1 >>= (λ at. Ok (made.Symlink to at)))))
unfolding symlink
symlink_by_parts ws = texts_first ws (λ first second. target first >>= (λ to. path second >>= (λ at. Ok (made.Symlink to at))))

pub write_by_parts : (ws : List (List ℕ))
    → write ws ≡ (three ws >>= (λ words. text_before words.0 (number_of words.1) >>= (λ both. formed (bytes_of words.2) >>= (λ bytes. path both.0 >>= (λ at. Ok (made.Write at both.1 bytes))))))
unfolding write
write_by_parts ws = same_then (three ws) _ _ (λ words. text_first words.0 (number_of words.1) (λ text from. formed (bytes_of words.2) >>= (λ bytes. path text >>= (λ at. Ok (made.Write at from bytes)))))

pub truncate_by_parts : (ws : List (List ℕ)) → truncate ws ≡ (two ws >>= (λ words. path_before words.0 (number_of words.1) >>= (λ all. Ok (made.Truncate all.0 all.1))))
unfolding truncate
truncate_by_parts ws = same_then (two ws) _ _ (λ words. path_first words.0 (number_of words.1) (λ at n. Ok (made.Truncate at n)))

pub chmod_by_parts : (ws : List (List ℕ)) → chmod ws ≡ (two ws >>= (λ words. path_before words.0 (mode_of words.1) >>= (λ all. Ok (made.Chmod all.0 all.1))))
unfolding chmod
chmod_by_parts ws = same_then (two ws) _ _ (λ words. path_first words.0 (mode_of words.1) (λ at mode. Ok (made.Chmod at mode)))

pub read_by_parts : (ws : List (List ℕ)) → read ws ≡ (three ws >>= (λ words. path_before words.0 (both (number_of words.1) (number_of words.2)) >>= (λ all. Ok (made.Read all.0 all.1.0 all.1.1))))
unfolding read
read_by_parts ws = same_then (three ws) _ _ (λ words. path_first_of_two words.0 (number_of words.1) (number_of words.2) (λ at from count. Ok (made.Read at from count)))

pub chown_by_parts : (ws : List (List ℕ)) → chown ws ≡ (three ws >>= (λ words. path_before words.0 (both (id_of words.1) (id_of words.2)) >>= (λ all. Ok (made.Chown all.0 all.1.0 all.1.1))))
unfolding chown
chown_by_parts ws = same_then (three ws) _ _ (λ words. path_first_of_two words.0 (id_of words.1) (id_of words.2) (λ at uid gid. Ok (made.Chown at uid gid)))

pub utime_by_parts : (ws : List (List ℕ)) → utime ws ≡ (three ws >>= (λ words. path_before words.0 (both (time_of words.1) (time_of words.2)) >>= (λ all. Ok (made.Utime all.0 all.1.0 all.1.1))))
unfolding utime
utime_by_parts ws = same_then (three ws) _ _ (λ words. path_first_of_two words.0 (time_of words.1) (time_of words.2) (λ at atime mtime. Ok (made.Utime at atime mtime)))
