-- The content of a file after a write.
use Rattle.std.proofs.Common.{◌≡◌, ℕ, ◌+◌, ◌-◌, ◌<◌, ◌++◌, length, take, drop, suc, zero, List, [], ◌∷◌, sym, ◌∙◌, ap, arith}
use Rattle.std.proofs.lemmas.List.{take_all, append-nil, take-replicate}
use Rattle.std.specs.Prelude.{replicate}
use Rattle.std.proofs.Math.ListN.{drop_of_length-le}
use Rattle.block_id.specs.Contents.{resized, overwritten}
use Rattle.block_id.proofs.Contents.{length-resized}

take_split : (n : ℕ) (xs ys : List ℕ) → take n (xs ++ ys) ≡ take n xs ++ take (n - length xs) ys
take_split zero [] ys = let same : 0 - 0 ≡ 0 = omega arith in sym (ap (λ k. take k ys) same)
take_split (suc n) [] ys = let same : suc n - 0 ≡ suc n = omega arith in sym (ap (λ k. take k ys) same)
take_split zero (x ∷ xs) ys = let none : 0 - length (x ∷ xs) ≡ 0 = omega arith in sym (ap (λ k. take k ys) none)
take_split (suc n) (x ∷ xs) ys = let same : n - length xs ≡ suc n - length (x ∷ xs) = omega arith in ap (λ zs. x ∷ zs) (take_split n xs ys ∙ ap (λ k. take n xs ++ take k ys) same)

-- bytes put over a content that was filled up to their end
pub put_past : (old bytes : List ℕ) (from : ℕ) (whole : List ℕ) → length old < from + length bytes → whole ≡ resized old (from + length bytes) → take from whole ++ bytes ++ drop (from + length bytes) whole ≡ overwritten old from bytes
put_past old bytes from whole lt is =
    let end = from + length bytes in
    let filled : whole ≡ old ++ replicate (end - length old) 0 = is ∙ ap (λ xs. xs ++ replicate (end - length old) 0) (take_all end old (omega arith)) in
    let size : length whole ≡ end = ap length is ∙ length-resized old end in
    let front : take from whole ≡ resized old from =
    ap (take from) filled ∙ (take_split from old (replicate (end - length old) 0) ∙ ap (λ zs. take from old ++ zs) (take-replicate (from - length old) (end - length old) 0 (omega arith))) in
    ap (λ xs. (xs ++ bytes) ++ drop end whole) front
    ∙ ap (λ ys. (resized old from ++ bytes) ++ ys) (drop_of_length-le whole (omega arith) ∙ sym (drop_of_length-le old (omega arith)))

-- a slice of all that was written back
pub written_back : (n : ℕ) (new slice items : List ℕ) → slice ≡ items → length slice ≡ n → length new ≡ length slice → take n (new ++ drop (length new) items) ≡ new
written_back n new slice items is size same =
    let all = ap length is in
    ap (λ ys. take n (new ++ ys)) (drop_of_length-le items (omega arith)) ∙ (ap (take n) (append-nil new) ∙ take_all n new (omega arith))
