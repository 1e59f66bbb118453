-- Bytes by their eight bits.
use Rattle.std.proofs.Common.{◌≡◌, ℕ, zero, suc, ◌+◌, ◌*◌, ◌%◌, ◌^◌, ◌<◌, [], ◌∷◌, bit_xor, map, slice_index, sym, ap, ◌∙◌, arith}
use Rattle.std.proofs.lemmas.List.FromFn.{get_or-map-range_with_len}
use Rattle.std.proofs.lemmas.Nat.{xor_lt}
use Rattle.std.proofs.lemmas.Nat.Bits.{bit_at-lt, bit_at_xor, same_from_bits_below}
use Rattle.std.specs.Int.{bit_at}
use Rattle.std.specs.List.{range_with_len}
use Rattle.aes_block.specs.Cipher.{of_bits}

-- what holds at 0 to 7
pub below_eight : (P : ℕ → Type 0) → P 0 → P 1 → P 2 → P 3 → P 4 → P 5 → P 6 → P 7 → (k : ℕ) → k < 8 → P k
below_eight P p0 p1 p2 p3 p4 p5 p6 p7 zero h = p0
below_eight P p0 p1 p2 p3 p4 p5 p6 p7 (suc zero) h = p1
below_eight P p0 p1 p2 p3 p4 p5 p6 p7 (suc (suc zero)) h = p2
below_eight P p0 p1 p2 p3 p4 p5 p6 p7 (suc (suc (suc zero))) h = p3
below_eight P p0 p1 p2 p3 p4 p5 p6 p7 (suc (suc (suc (suc zero)))) h = p4
below_eight P p0 p1 p2 p3 p4 p5 p6 p7 (suc (suc (suc (suc (suc zero))))) h = p5
below_eight P p0 p1 p2 p3 p4 p5 p6 p7 (suc (suc (suc (suc (suc (suc zero)))))) h = p6
below_eight P p0 p1 p2 p3 p4 p5 p6 p7 (suc (suc (suc (suc (suc (suc (suc zero))))))) h = p7
below_eight P p0 p1 p2 p3 p4 p5 p6 p7 (suc (suc (suc (suc (suc (suc (suc (suc n)))))))) h = absurd (omega arith)

-- eight numbers in a row, by their places
pub row_same : (f g : ℕ → ℕ) → ((k : ℕ) → k < 8 → f k ≡ g k) → map f (range_with_len 0 8) ≡ map g (range_with_len 0 8)
row_same f g h =
    let e0 = h 0 (omega arith) in let e1 = h 1 (omega arith) in let e2 = h 2 (omega arith) in let e3 = h 3 (omega arith) in
    let e4 = h 4 (omega arith) in let e5 = h 5 (omega arith) in let e6 = h 6 (omega arith) in let e7 = h 7 (omega arith) in
    λ i. e0 i ∷ e1 i ∷ e2 i ∷ e3 i ∷ e4 i ∷ e5 i ∷ e6 i ∷ e7 i ∷ []

pub row_at : (f g : ℕ → ℕ) → map f (range_with_len 0 8) ≡ map g (range_with_len 0 8) → (k : ℕ) → k < 8 → f k ≡ g k
row_at f g e k lt =
    sym (get_or-map-range_with_len f 0 8 k k 0 lt (omega arith)) ∙ ap (λ l. slice_index l k) e ∙ get_or-map-range_with_len g 0 8 k k 0 lt (omega arith)

pub of_bits_same : (f g : ℕ → ℕ) → ((k : ℕ) → k < 8 → f k ≡ g k) → of_bits f ≡ of_bits g
of_bits_same f g h =
    let e0 = h 0 (omega arith) in let e1 = h 1 (omega arith) in let e2 = h 2 (omega arith) in let e3 = h 3 (omega arith) in
    let e4 = h 4 (omega arith) in let e5 = h 5 (omega arith) in let e6 = h 6 (omega arith) in let e7 = h 7 (omega arith) in
    λ i. e0 i + 2 * e1 i + 4 * e2 i + 8 * e3 i + 16 * e4 i + 32 * e5 i + 64 * e6 i + 128 * e7 i

pub of_bits-lt : (f : ℕ → ℕ) → ((k : ℕ) → f k < 2) → of_bits f < 2 ^ 8
of_bits-lt f h =
    let l0 = h 0 in let l1 = h 1 in let l2 = h 2 in let l3 = h 3 in let l4 = h 4 in let l5 = h 5 in let l6 = h 6 in let l7 = h 7 in
    omega arith

pub bit_at-of_bits : (f : ℕ → ℕ) → ((k : ℕ) → f k < 2) → (k : ℕ) → k < 8 → bit_at (of_bits f) k ≡ f k
bit_at-of_bits f h =
    let l0 = h 0 in let l1 = h 1 in let l2 = h 2 in let l3 = h 3 in let l4 = h 4 in let l5 = h 5 in let l6 = h 6 in let l7 = h 7 in
    below_eight (λ k. bit_at (of_bits f) k ≡ f k) (omega arith) (omega arith) (omega arith) (omega arith) (omega arith) (omega arith) (omega arith) (omega arith)

-- a byte is the number of its bits
pub of_bits_bits : (b : ℕ) → b < 2 ^ 8 → of_bits (bit_at b) ≡ b
of_bits_bits b lt = same_from_bits_below 8 _ _ (of_bits-lt (bit_at b) (bit_at-lt b)) lt (bit_at-of_bits (bit_at b) (bit_at-lt b))

pub of_bits-sum : (f g : ℕ → ℕ) → ((k : ℕ) → f k < 2) → ((k : ℕ) → g k < 2) → of_bits (λ k. (f k + g k) % 2) ≡ bit_xor (of_bits f) (of_bits g)
of_bits-sum f g hf hg =
    let h : (k : ℕ) → (f k + g k) % 2 < 2 = λ k. omega arith in
    same_from_bits_below 8 _ _ (of_bits-lt (λ k. (f k + g k) % 2) h) (xor_lt 8 _ _ (of_bits-lt f hf) (of_bits-lt g hg))
    (λ k lt. bit_at-of_bits (λ k. (f k + g k) % 2) h k lt
    ∙ sym (bit_at_xor (of_bits f) (of_bits g) k ∙ (λ i. (bit_at-of_bits f hf k lt i + bit_at-of_bits g hg k lt i) % 2)))
