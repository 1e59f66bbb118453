-- Blocks with their words on the diagonals, part by part, joined, xored, and back in order.
use Rattle.std.proofs.Common.{◌≡◌, ℕ, zero, suc, ◌+◌, ◌-◌, ◌*◌, ◌/◌, ◌%◌, ◌<◌, ◌≤◌, List, ◌++◌, length, get_or, slice_index, bit_xor, refl, sym, ap, ◌∙◌, arith, inl, inr}
use Rattle.std.proofs.lemmas.Bool.{cases_lt}
use Rattle.std.proofs.lemmas.List.{ext_get_or, get_or-append_right, get_or_append_left, length-append}
use Rattle.std.proofs.lemmas.List.Edits.{get_or-between, length-between}
use Rattle.std.proofs.lemmas.List.FromFn.{get_or-map-range_with_len, length-map-range_with_len}
use Rattle.std.proofs.lemmas.Simd.{get_or-zip2, length-zip2}
use Rattle.scrypt_kdf.specs.Order.{on_diagonals, reordered, source}
use Rattle.scrypt_kdf.specs.Scrypt.{joined, part, xor_bytes}
use Rattle.scrypt_kdf.proofs.Parts.{joined_more, length-joined}

pub length-reordered : (step : ℕ) (b : List ℕ) → length (reordered step b) ≡ length b
unfolding reordered
length-reordered step b = length-map-range_with_len (λ k. slice_index b (source step k)) 0 (length b)

pub get_or-reordered : (step : ℕ) (b : List ℕ) (k : ℕ) → k < length b
    → get_or (reordered step b) k 0 ≡ get_or b (source step k) 0
unfolding reordered
get_or-reordered step b k lt =
    get_or-map-range_with_len (λ k. slice_index b (source step k)) 0 (length b) k k 0 lt (omega arith)

-- a byte comes from its own block
pub source_within : (step k m : ℕ) → k < 64 * m → source step k < 64 * m
source_within step k m lt = omega arith

-- five times thirteen is one, modulo sixteen
source_back : (k : ℕ) → source 5 (source 13 k) ≡ k
source_back k =
    let w : ℕ = (13 * (k / 4)) % 16 in
    let s : ℕ = 64 * (k / 64) + (4 * w + k % 4) in
    let block : s / 64 ≡ k / 64 = omega arith in
    let word : s / 4 ≡ 16 * (k / 64) + w = omega arith in
    let byte : s % 4 ≡ k % 4 = omega arith in
    let back : (5 * (16 * (k / 64) + w)) % 16 ≡ (k / 4) % 16 = omega arith in
    (λ t. 64 * block t + (4 * ((5 * word t) % 16) + byte t))
    ∙ ap (λ (v : ℕ). 64 * (k / 64) + (4 * v + k % 4)) back ∙ omega arith

pub reordered_back : (b : List ℕ) (m : ℕ) → length b ≡ 64 * m → reordered 13 (on_diagonals b) ≡ b
reordered_back b m long =
    let n = length-reordered 5 b in
    let n' = length-reordered 13 (on_diagonals b) in
    ext_get_or 0 (reordered 13 (on_diagonals b)) b (n' ∙ n) (λ k lt.
    let within : source 13 k < 64 * m = source_within 13 k m (omega arith) in
    get_or-reordered 13 (on_diagonals b) k (omega arith)
    ∙ get_or-reordered 5 b (source 13 k) (omega arith)
    ∙ ap (λ (q : ℕ). get_or b q 0) (source_back k))

source_in_part : (i k : ℕ) → source 5 (64 * i + k) ≡ 64 * i + source 5 k
source_in_part i k = omega arith

pub part_on_diagonals : (b : List ℕ) (i m : ℕ) → length b ≡ 64 * m → i < m
    → part 64 (on_diagonals b) i ≡ on_diagonals (part 64 b i)
part_on_diagonals b i m long lt =
    let n = length-reordered 5 b in
    let here : length (part 64 b i) ≡ 64 * i + 64 - 64 * i = length-between b (64 * i) (64 * i + 64) (omega arith) in
    let there = length-between (on_diagonals b) (64 * i) (64 * i + 64) (omega arith) in
    let last = length-reordered 5 (part 64 b i) in
    ext_get_or 0 (part 64 (on_diagonals b) i) (on_diagonals (part 64 b i)) (omega arith) (λ k h.
    let within : source 5 k < 64 * 1 = source_within 5 k 1 (omega arith) in
    get_or-between (on_diagonals b) (64 * i) (64 * i + 64) k 0 (omega arith)
    ∙ get_or-reordered 5 b (64 * i + k) (omega arith)
    ∙ ap (λ (q : ℕ). get_or b q 0) (source_in_part i k)
    ∙ sym (get_or-between b (64 * i) (64 * i + 64) (source 5 k) 0 (omega arith))
    ∙ sym (get_or-reordered 5 (part 64 b i) k (omega arith)))

pub xor_on_diagonals : (x y : List ℕ) (m : ℕ) → length x ≡ 64 * m → length y ≡ 64 * m
    → xor_bytes (on_diagonals x) (on_diagonals y) ≡ on_diagonals (xor_bytes x y)
xor_on_diagonals x y m long long' =
    let n = length-reordered 5 x in
    let n' = length-reordered 5 y in
    let both = length-zip2 bit_xor x y (omega arith) in
    let left = length-zip2 bit_xor (on_diagonals x) (on_diagonals y) (omega arith) in
    let right = length-reordered 5 (xor_bytes x y) in
    ext_get_or 0 (xor_bytes (on_diagonals x) (on_diagonals y)) (on_diagonals (xor_bytes x y)) (omega arith) (λ k lt.
    let within : source 5 k < 64 * m = source_within 5 k m (omega arith) in
    get_or-zip2 bit_xor (on_diagonals x) (on_diagonals y) k 0 0 0 (omega arith) (omega arith)
    ∙ (λ t. bit_xor (get_or-reordered 5 x k (omega arith) t) (get_or-reordered 5 y k (omega arith) t))
    ∙ sym (get_or-zip2 bit_xor x y (source 5 k) 0 0 0 (omega arith) (omega arith))
    ∙ sym (get_or-reordered 5 (xor_bytes x y) k (omega arith)))

back : (a b : ℕ) → a + b - a ≡ b
back a b = omega arith

pub on_diagonals_append : (x y : List ℕ) (m n : ℕ) → length x ≡ 64 * m → length y ≡ 64 * n
    → on_diagonals (x ++ y) ≡ on_diagonals x ++ on_diagonals y
on_diagonals_append x y m n long long' =
    let nx = length-reordered 5 x in
    let ny = length-reordered 5 y in
    let nxy = length-reordered 5 (x ++ y) in
    let sum = length-append x y in
    let sum' = length-append (on_diagonals x) (on_diagonals y) in
    ext_get_or 0 (on_diagonals (x ++ y)) (on_diagonals x ++ on_diagonals y) (omega arith) (λ k lt.
    get_or-reordered 5 (x ++ y) k (omega arith) ∙ elim (cases_lt k (64 * m)) [
      | inl left ↦
          let within : source 5 k < 64 * m = source_within 5 k m left in
          get_or_append_left x y 0 (source 5 k) (omega arith)
          ∙ sym (get_or-reordered 5 x k (omega arith))
          ∙ sym (get_or_append_left (on_diagonals x) (on_diagonals y) 0 k (omega arith))
      | inr right ↦
          let at : ℕ = k - 64 * m in
          let e : 64 * m + at ≡ k = omega arith in
          let s : source 5 k ≡ 64 * m + source 5 at = ap (source 5) (sym e) ∙ source_in_part m at in
          let before : 64 * m ≤ source 5 k = omega (arith, s) in
          get_or-append_right x y (64 * m) (source 5 k) 0 long before
          ∙ ap (λ (q : ℕ). get_or y q 0) (ap (λ (q : ℕ). q - 64 * m) s ∙ back (64 * m) (source 5 at))
          ∙ sym (get_or-reordered 5 y at (omega arith))
          ∙ sym (get_or-append_right (on_diagonals x) (on_diagonals y) (64 * m) k 0 (omega arith) right)
    ])

pub on_diagonals_joined : (f : ℕ → List ℕ) (n : ℕ) → ((k : ℕ) → length (f k) ≡ 64)
    → on_diagonals (joined f n) ≡ joined (λ k. on_diagonals (f k)) n
unfolding reordered
on_diagonals_joined f zero each = refl
on_diagonals_joined f (suc n) each =
    let e : suc n ≡ n + 1 = omega arith in
    ap (λ (k : ℕ). on_diagonals (joined f k)) e
    ∙ ap on_diagonals (joined_more f n)
    ∙ on_diagonals_append (joined f n) (f n) n 1 (length-joined 64 f n (λ k lt. each k)) (each n)
    ∙ ap (λ (xs : List ℕ). xs ++ on_diagonals (f n)) (on_diagonals_joined f n each)
    ∙ sym (joined_more (λ k. on_diagonals (f k)) n)
    ∙ ap (joined (λ k. on_diagonals (f k))) (sym e)
