-- Bytes that are filled up with zeros, and their fronts.
use Rattle.std.proofs.Common.{◌≡◌, ℕ, zero, suc, ◌-◌, ◌≤◌, min, List, [], ◌∷◌, ◌++◌, length, take, refl, sym, ◌∙◌, ap, arith, length-append, length-take}
use Rattle.std.specs.Prelude.{replicate}
use Rattle.std.proofs.lemmas.List.{length-replicate, take-replicate, take_all, take_min}
use Rattle.sealed_store.specs.Drafts.{filled}

pub filled_len : (len : ℕ) (front : List ℕ) → length front ≤ len → length (filled len front) ≡ len
filled_len len front le = length-append front (replicate (len - length front) 0) ∙ omega (arith, length-replicate {A = ℕ} (len - length front) 0, le)

cut_zeros : (n k : ℕ) → take {A = ℕ} n (replicate k 0) ≡ replicate (min n k) 0
cut_zeros n k =
    let zeros : List ℕ = replicate k 0 in
    sym (take_min n zeros) ∙ ap (λ (l : ℕ). take (min n l) zeros) (length-replicate {A = ℕ} k 0) ∙ take-replicate {X = ℕ} (min n k) k 0 (omega arith)

cut_append : (n : ℕ) (xs ys : List ℕ) → take n (xs ++ ys) ≡ take n xs ++ take (n - length xs) ys
cut_append zero [] ys = refl
cut_append (suc n) [] ys =
    let same : suc n ≡ suc n - length {A = ℕ} [] = omega arith in
    ap (λ (k : ℕ). take k ys) same
cut_append zero (x ∷ xs) ys =
    let none : 0 ≡ 0 - length (x ∷ xs) = omega arith in
    ap (λ (k : ℕ). take k ys) none
cut_append (suc n) (x ∷ xs) ys =
    let same : n - length xs ≡ suc n - length (x ∷ xs) = omega arith in
    ap (λ (l : List ℕ). x ∷ l) (cut_append n xs ys ∙ ap (λ (k : ℕ). take n xs ++ take k ys) same)

-- the first bytes of what is filled up are the first of the front, filled up
pub filled_front : (most len : ℕ) (front : List ℕ) → length front ≤ len → take most (filled len front) ≡ filled (min most len) (take most front)
filled_front most len front le =
    let zeros : take {A = ℕ} (most - length front) (replicate (len - length front) 0) ≡ replicate (min most len - length (take most front)) 0 =
    cut_zeros (most - length front) (len - length front) ∙ ap (λ (n : ℕ). replicate {A = ℕ} n 0) (omega (arith, length-take most front, le)) in
    cut_append most front (replicate (len - length front) 0) ∙ ap (λ (l : List ℕ). take most front ++ l) zeros

pub filled_cut : (len size : ℕ) (front : List ℕ) → length front ≤ len → len ≤ size → take len (filled size front) ≡ filled len front
filled_cut len size front le less =
    let least : min len size ≡ len = omega arith in
    filled_front len size front (omega arith) ∙ (λ i. filled (least i) (take_all len front le i))
