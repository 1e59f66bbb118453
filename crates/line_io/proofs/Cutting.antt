-- Where lines end.
use Rattle.std.proofs.Common.{◌≡◌, ◌≤◌, ◌<◌, ◌+◌, ℕ, Bool, true, false, not, cond, List, [], ◌∷◌, ◌++◌, length, take, drop, suc, nat_lt, nat_le, refl, sym, ◌∙◌, ap, subst, arith}
use Rattle.std.proofs.lemmas.Grind.{common_steps}
use Rattle.std.proofs.lemmas.Bool.Decides.{nat_tests}
use Rattle.std.specs.List.{position, position_or_len}
use Rattle.std.specs.declared.option.Option.{Option}
use Rattle.std.specs.declared.option.Option.TheVariants.{None, Some}
use Rattle.line_io.specs.Lines.{is_newline, lines, onto_first, IsUnbroken, IsFirstNewline, kept, kept_on}

abbrev place : List ℕ → ℕ
place bytes = position_or_len is_newline bytes

unbroken_one : (byte : ℕ) (bytes : List ℕ) (n : ℕ) (b : Bool) → is_newline byte ≡ b → IsUnbroken (take n bytes)
    → IsUnbroken (take (cond (not b) (1 + n) 0) (byte ∷ bytes))
unbroken_one byte bytes n true e u = tt
unbroken_one byte bytes n false e u =
    let s : suc n ≡ 1 + n = omega arith in
    subst (λ k. IsUnbroken (take k (byte ∷ bytes))) s (e, u)

unbroken_before : (bytes : List ℕ) → IsUnbroken (take (place bytes) bytes)
unbroken_before [] = tt
unbroken_before (byte ∷ bytes) = unbroken_one byte bytes (place bytes) (is_newline byte) refl (unbroken_before bytes)

is_ten : (byte : ℕ) → is_newline byte ≡ true → byte ≡ 10
is_ten byte e = grind (arith, nat_tests)

cut_one : (byte : ℕ) (bytes : List ℕ) (n : ℕ) (b : Bool) → is_newline byte ≡ b → (n < length bytes → bytes ≡ take n bytes ++ 10 ∷ drop (n + 1) bytes)
    → cond (not b) (1 + n) 0 < length (byte ∷ bytes)
    → byte ∷ bytes ≡ take (cond (not b) (1 + n) 0) (byte ∷ bytes) ++ 10 ∷ drop (cond (not b) (1 + n) 0 + 1) (byte ∷ bytes)
cut_one byte bytes n true e u h = ap (λ c. c ∷ bytes) (is_ten byte e)
cut_one byte bytes n false e u h =
    let s : suc n ≡ 1 + n = omega arith in
    let l : n < length bytes = omega arith in
    let d : suc (n + 1) ≡ 1 + n + 1 = omega arith in
    ap (λ c. byte ∷ c) (u l) ∙ (ap (λ k. take k (byte ∷ bytes) ++ 10 ∷ drop (n + 1) bytes) s ∙ ap (λ k. take (1 + n) (byte ∷ bytes) ++ 10 ∷ drop k (byte ∷ bytes)) d)

cut_before : (bytes : List ℕ) → place bytes < length bytes → bytes ≡ take (place bytes) bytes ++ 10 ∷ drop (place bytes + 1) bytes
cut_before [] h = absurd (omega arith)
cut_before (byte ∷ bytes) h = cut_one byte bytes (place bytes) (is_newline byte) refl (cut_before bytes) h

found_by : (bytes : List ℕ) (k n : ℕ) (b : Bool) → nat_lt k (length bytes) ≡ b → Some n ≡ cond b (Some k) None → (n ≡ k) × (k < length bytes)
found_by bytes k n true e f = (cc, grind (arith, nat_tests))
found_by bytes k n false e f = absurd (cc)

-- where a newline was found, it is the first
pub found : (bytes : List ℕ) (n : ℕ) → Some n ≡ position is_newline bytes → IsFirstNewline bytes n
found bytes n e =
    let f : (n ≡ place bytes) × (place bytes < length bytes) = found_by bytes (place bytes) n _ refl e in
    subst (λ k. IsFirstNewline bytes k) (sym f.0) (unbroken_before bytes, cut_before bytes f.1)

none_by : (bytes : List ℕ) (k : ℕ) (b : Bool) → nat_lt k (length bytes) ≡ b → ◌≡◌ {A = Option ℕ} None (cond b (Some k) None) → length bytes ≤ k
none_by bytes k true e f = absurd (cc)
none_by bytes k false e f = grind (arith, nat_tests)

take_whole : (bytes : List ℕ) (k : ℕ) → length bytes ≤ k → take k bytes ≡ bytes
take_whole bytes k h = grind (arith, common_steps)

-- where none was found, there is none
pub not_found : (bytes : List ℕ) → ◌≡◌ {A = Option ℕ} None (position is_newline bytes) → IsUnbroken bytes
not_found bytes e =
    subst IsUnbroken (take_whole bytes (place bytes) (none_by bytes (place bytes) _ refl e)) (unbroken_before bytes)

pub IsUnbroken-append : (a b : List ℕ) → IsUnbroken a → IsUnbroken b → IsUnbroken (a ++ b)
IsUnbroken-append [] b u v = v
IsUnbroken-append (x ∷ a) b u v = (u.0, IsUnbroken-append a b u.1 v)

-- a newline ends the first line
pub lines-cut : (line more : List ℕ) → IsUnbroken line → lines (line ++ 10 ∷ more) ≡ line ∷ lines more
lines-cut [] more u = refl
lines-cut (byte ∷ line) more u =
    ap (λ b. cond b ([] ∷ lines (line ++ 10 ∷ more)) (onto_first byte (lines (line ++ 10 ∷ more)))) u.0 ∙ ap (onto_first byte) (lines-cut line more u.1)

-- a last piece is a line
pub lines-last : (byte : ℕ) (line : List ℕ) → IsUnbroken (byte ∷ line) → lines (byte ∷ line) ≡ (byte ∷ line) ∷ []
lines-last byte [] u = ap (λ b. cond b ([] ∷ []) ((byte ∷ []) ∷ [])) u.0
lines-last byte (next ∷ line) u =
    ap (λ b. cond b ([] ∷ lines (next ∷ line)) (onto_first byte (lines (next ∷ line)))) u.0 ∙ ap (onto_first byte) (lines-last next line u.1)

-- what is kept of a line goes on with it
pub kept-append : (line part : List ℕ) → kept_on (kept line) part ≡ kept (line ++ part)
kept-append line part = by_length (nat_le (length line) 1048576) refl
  where
    by_length : (b : Bool) → nat_le (length line) 1048576 ≡ b → kept_on (cond b (Some line) None) part ≡ kept (line ++ part)
    by_length true e = refl
    by_length false e = grind (arith, nat_tests, common_steps)
