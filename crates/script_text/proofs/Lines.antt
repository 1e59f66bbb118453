-- What the grammar says of a line.
use Rattle.std.proofs.Common.{◌≡◌, ℕ, ◌+◌, ◌-◌, ◌^◌, ◌<◌, ◌≤◌, Bool, true, false, cond, List, [], ◌∷◌, length, get_or, take, drop, Option, Some, None, Result, Ok, Err, refl, sym, ap, ◌∙◌, arith, inl, inr, nat_lt}
use Rattle.std.specs.Prelude.{IfOk, nat_le}
use Rattle.std.specs.List.{list_any, list_all}
use Rattle.std.specs.Char.{digit_value}
use Rattle.std.specs.Str.Parse.{digits_value, AllDigits}
use Rattle.std.proofs.Math.Nat.{pow-le-pow_right}
use Rattle.std.proofs.lemmas.Bool.{cases_eq, cases_lt, cond-true, lt-ltb, ltb-false, le-leb, leb-true, ltb-true, and_from, and_parts, or_parts, not_from_false}
use Rattle.std.proofs.lemmas.Int.Digits.{digits_value-lt}
use Rattle.std.proofs.lemmas.Option.{cond_some, same_Some, none-some}
use Rattle.std.proofs.lemmas.Result.{IfOk-at_ok}
use Rattle.fs_model.specs.Fitting.{IsFitting, is_target, is_mode}
use Rattle.fs_model.specs.Names.{is_zero}
use Rattle.fs_model.specs.declared.command.Command.{Command}
use Rattle.fs_model.specs.declared.command.Command.TheVariants as made
use Rattle.fs_model.specs.declared.error.FsError.{FsError}
use Rattle.fs_model.specs.declared.error.FsError.TheVariants.{BadLine, Invalid, NameTooLong}
use Rattle.fs_model.specs.declared.limits.TheConstants.{MAX_TARGET}
use Rattle.script_text.specs.declared.verb.Verb.{Verb}
use Rattle.script_text.specs.declared.verb.Verb.TheVariants as verb
use Rattle.script_text.specs.declared.grammar.TheConstants.{MAX_LINE}
use Rattle.script_text.specs.Words.{words, is_empty, front, two, three}
use Rattle.script_text.specs.Numbers.{is_digit_in, number_in, is_number_in, number_of, id_of, mode_of, time_of}
use Rattle.script_text.specs.Escapes.{unescaped, with_byte, escape_of, bytes_of}
use Rattle.script_text.specs.Grammar.{◌>>=◌, formed, path, target, verb_of, only_path, with_path, mv, symlink, write, read, truncate, chmod, chown, utime, sync, sentence, command_in, command_of}
use Rattle.script_text.proofs.Numerals.{digit_value_is}
use Rattle.script_text.proofs.Spelled.{unescaped_plain, unescaped_cut, escape_here}

-- a line of more bytes is bad
pub command_of-long : (line : List ℕ) → 1048576 < length line → command_of line ≡ Err BadLine
unfolding command_of
command_of-long line long = cond-true _ _ _ (lt-ltb MAX_LINE (length line) long)

-- what holds of each Ok of two steps
step : {A B : Type 0} (r : Result A FsError) (f : A → Result B FsError) (P : B → Type 0) → ((x : A) → r ≡ Ok x → IfOk (f x) P) → IfOk (r >>= f) P
step (Ok x) f P h = h x refl
step (Err e) f P h = tt

guard : {A : Type 0} (b : Bool) (e : FsError) (r : Result A FsError) (P : A → Type 0) → (b ≡ false → IfOk r P) → IfOk (cond b (Err e) r) P
guard true e r P h = tt
guard false e r P h = h refl

formed_ok : {A : Type 0} (o : Option A) (x : A) → formed o ≡ Ok x → o ≡ Some x
formed_ok (Some y) x h = cc
formed_ok None x h = absurd (cc)

with_byte_some : (o : Option ℕ) (u : Option (List ℕ)) (text : List ℕ) → with_byte o u ≡ Some text → 0 < length text
with_byte_some (Some b) (Some bytes) text h =
    let e : b ∷ bytes ≡ text = same_Some (b ∷ bytes) text h in
    let l : length (b ∷ bytes) ≡ length text = ap length e in
    omega arith
with_byte_some (Some b) None text h = absurd (cc)
with_byte_some None u text h = absurd (cc)

-- a word stands for a byte at least
unescaped_some : (w text : List ℕ) → 0 < length w → unescaped w ≡ Some text → 0 < length text
unescaped_some w text some h = elim (cases_eq (get_or w 0 0) 92) [
  | inr plain ↦ with_byte_some (Some (get_or w 0 0)) (unescaped (take (length w - 1) (drop 1 w))) text (sym (unescaped_plain w some plain) ∙ h)
  | inl slash ↦ elim (cases_lt (length w) 4) [
    | inl short ↦ absurd (none-some text (sym (unescaped_cut w some slash short) ∙ h))
    | inr long ↦ with_byte_some (escape_of (get_or w 1 0) (get_or w 2 0) (get_or w 3 0)) (unescaped (take (length w - 4) (drop 4 w))) text (sym (escape_here w long slash) ∙ h)
  ]
]

not_empty : (w : List ℕ) → is_empty w ≡ false → 0 < length w
not_empty [] h = absurd (cc)
not_empty (b ∷ w) h = omega arith

rest_full : (w : List ℕ) (ws : List (List ℕ)) → list_any is_empty (w ∷ ws) ≡ false → (0 < length w) × (list_any is_empty ws ≡ false)
rest_full w ws h = let parts = or_parts (is_empty w) (list_any is_empty ws) h in (not_empty w parts.0, parts.1)

first_full : (ws : List (List ℕ)) (both : List ℕ × List ℕ) → list_any is_empty ws ≡ false → two ws ≡ Ok both → 0 < length both.0
first_full (a ∷ b ∷ []) both full h =
    let e : a ≡ both.0 = cc in
    let l : length a ≡ length both.0 = ap length e in
    let some : 0 < length a = (rest_full a (b ∷ []) full).0 in
    omega arith
first_full [] both full h = absurd (cc)
first_full (a ∷ []) both full h = absurd (cc)
first_full (a ∷ b ∷ c ∷ ws) both full h = absurd (cc)

target_fits : (text : List ℕ) → 0 < length text → IfOk (target text) (λ to. is_target to ≡ true)
target_fits text some =
    guard (list_any is_zero text) Invalid _ _ (λ zeros.
    guard (nat_lt MAX_TARGET (length text)) NameTooLong _ _ (λ short.
    and_from _ _ (lt-ltb 0 (length text) some) (and_from _ _ (le-leb (length text) MAX_TARGET (ltb-false MAX_TARGET (length text) short)) (not_from_false _ zeros))))

digit_below : (base c : ℕ) → base ≤ 10 → is_digit_in base c ≡ true → digit_value c < base
digit_below base c small h =
    let parts = and_parts (nat_le 48 c) (nat_lt c (48 + base)) h in
    let low : 48 ≤ c = leb-true 48 c parts.0 in
    let high : c < 48 + base = ltb-true c (48 + base) parts.1 in
    let e = digit_value_is c low (omega arith) in
    omega arith

pub digits_from_test : (base : ℕ) (w : List ℕ) → base ≤ 10 → list_all (is_digit_in base) w ≡ true → AllDigits base w
digits_from_test base [] small h = tt
digits_from_test base (c ∷ w) small h =
    let parts = and_parts (is_digit_in base c) (list_all (is_digit_in base) w) h in
    (digit_below base c small parts.0, digits_from_test base w small parts.1)

mode_fits : (w : List ℕ) (m : ℕ) → mode_of w ≡ Some m → is_mode m ≡ true
unfolding mode_of number_in
mode_fits w m h =
    let parts = cond_some (is_number_in 8 4 w) (digits_value 8 w) m h in
    let tests = and_parts (nat_lt 0 (length w)) _ parts.0 in
    let more = and_parts (nat_le (length w) 4) (list_all (is_digit_in 8) w) tests.1 in
    let few : length w ≤ 4 = leb-true (length w) 4 more.0 in
    let small : digits_value 8 w < 8 ^ length w = digits_value-lt 8 w (digits_from_test 8 w (omega arith) more.1) in
    let up : 8 ^ length w ≤ 8 ^ 4 = pow-le-pow_right (omega arith) few in
    le-leb m 4095 (omega (arith, parts.1))

path_fits : (make : List (List ℕ) → Command) (ws : List (List ℕ)) → ((p : List (List ℕ)) → IsFitting (make p)) → IfOk (with_path make ws) IsFitting
path_fits make ws h = step (only_path ws) _ _ (λ p e. h p)

sentence_fits : (v : Verb) (ws : List (List ℕ)) → list_any is_empty ws ≡ false → IfOk (sentence v ws) IsFitting
unfolding sentence mv symlink write read truncate chmod chown utime sync
sentence_fits verb.List ws full = path_fits made.List ws (λ p. refl)
sentence_fits verb.Stat ws full = path_fits made.Stat ws (λ p. refl)
sentence_fits verb.Mkdir ws full = path_fits made.Mkdir ws (λ p. refl)
sentence_fits verb.Rmdir ws full = path_fits made.Rmdir ws (λ p. refl)
sentence_fits verb.Mkfile ws full = path_fits made.Mkfile ws (λ p. refl)
sentence_fits verb.Rm ws full = path_fits made.Rm ws (λ p. refl)
sentence_fits verb.Readlink ws full = path_fits made.Readlink ws (λ p. refl)
sentence_fits verb.Mv ws full = step (two ws) _ _ (λ both e. step (formed (unescaped both.0)) _ _ (λ from e. step (formed (unescaped both.1)) _ _ (λ to e. step (path from) _ _ (λ p e. step (path to) _ _ (λ q e. refl)))))
sentence_fits verb.Symlink ws full =
    step (two ws) _ _ (λ both split. step (formed (unescaped both.0)) _ _ (λ text read. step (formed (unescaped both.1)) _ _ (λ at e.
    step (target text) _ _ (λ to said. step (path at) _ _ (λ p e.
    IfOk-at_ok (λ to. is_target to ≡ true) said (target_fits text (unescaped_some both.0 text (first_full ws both full split) (formed_ok (unescaped both.0) text read))))))))
sentence_fits verb.Write ws full = step (three ws) _ _ (λ all e. step (formed (unescaped all.0)) _ _ (λ text e. step (formed (number_of all.1)) _ _ (λ n e. step (formed (bytes_of all.2)) _ _ (λ m e. step (path text) _ _ (λ p e. refl)))))
sentence_fits verb.Read ws full = step (three ws) _ _ (λ all e. step (formed (unescaped all.0)) _ _ (λ text e. step (formed (number_of all.1)) _ _ (λ n e. step (formed (number_of all.2)) _ _ (λ m e. step (path text) _ _ (λ p e. refl)))))
sentence_fits verb.Truncate ws full = step (two ws) _ _ (λ both e. step (formed (unescaped both.0)) _ _ (λ text e. step (formed (number_of both.1)) _ _ (λ n e. step (path text) _ _ (λ p e. refl))))
sentence_fits verb.Chmod ws full = step (two ws) _ _ (λ both e. step (formed (unescaped both.0)) _ _ (λ text e. step (formed (mode_of both.1)) _ _ (λ n read. step (path text) _ _ (λ p e. mode_fits both.1 n (formed_ok (mode_of both.1) n read)))))
sentence_fits verb.Chown ws full = step (three ws) _ _ (λ all e. step (formed (unescaped all.0)) _ _ (λ text e. step (formed (id_of all.1)) _ _ (λ n e. step (formed (id_of all.2)) _ _ (λ m e. step (path text) _ _ (λ p e. refl)))))
sentence_fits verb.Utime ws full = step (three ws) _ _ (λ all e. step (formed (unescaped all.0)) _ _ (λ text e. step (formed (time_of all.1)) _ _ (λ n e. step (formed (time_of all.2)) _ _ (λ m e. step (path text) _ _ (λ p e. refl)))))
sentence_fits verb.Sync [] full = refl
sentence_fits verb.Sync (w ∷ ws) full = tt

front_full : (ws : List (List ℕ)) (parts : List ℕ × List (List ℕ)) → list_any is_empty ws ≡ false → front ws ≡ Ok parts → list_any is_empty parts.1 ≡ false
front_full [] parts full h = absurd (cc)
front_full (w ∷ ws) parts full h =
    let e : ws ≡ parts.1 = cc in
    ap (list_any is_empty) (sym e) ∙ (rest_full w ws full).1

in_fits : (ws : List (List ℕ)) → list_any is_empty ws ≡ false → IfOk (command_in ws) IsFitting
unfolding command_in
in_fits ws full =
    step (front ws) (λ parts. formed (verb_of parts.0) >>= (λ v. sentence v parts.1)) IsFitting
    (λ parts cut. step (formed (verb_of parts.0)) (λ v. sentence v parts.1) IsFitting (λ v e. sentence_fits v parts.1 (front_full ws parts full cut)))

-- each command of a line fits
pub command_fits : (line : List ℕ) → IfOk (command_of line) IsFitting
unfolding command_of
command_fits line =
    let empty = list_any is_empty (words line) in
    guard (nat_lt MAX_LINE (length line)) BadLine (cond empty (Err BadLine) (command_in (words line))) IsFitting
    (λ short. guard empty BadLine (command_in (words line)) IsFitting (λ full. in_fits (words line) full))
