-- The product, four bits at a time, by the tables.
use Rattle.std.proofs.Common.{◌≡◌, ℕ, zero, suc, ◌+◌, ◌-◌, ◌*◌, ◌/◌, ◌%◌, ◌<◌, bit_xor, refl, ap, ◌∙◌, add-one, arith}
use Rattle.std.proofs.Math.Nat.{mul-zero, zero-mul, one-mul}
use Rattle.std.specs.Int.Bits.{xor_zero_l, xor_zero_r}
use Rattle.std.proofs.Common.{◌^◌, List, [], ◌∷◌, length, map, replicate, slice_set, slice_index_or, ◌≢◌, inl, inr, slice_index, shr-shr, sym}
use Rattle.std.proofs.Math.Nat.{pow-suc}
use Rattle.std.proofs.lemmas.Nat.{pow-add}
use Rattle.std.proofs.lemmas.List.{get_or-replicate, get_or-set_same, get_or-set_other}
use Rattle.std.proofs.lemmas.List.FromFn.{get_or-map-range_with_len}
use Rattle.std.proofs.lemmas.Bool.{cases_lt}
use Rattle.std.specs.List.{range_with_len}
use Rattle.std.specs.Int.{w128, bytes_high_first, byte_at, to_be_bytes}
use Rattle.std.proofs.lemmas.Nat.Bits.{bit_at_xor, same_from_bits}
use Rattle.aes_gcm.specs.Ghash.{block_bit, next_v, v_at, z_at}
use Rattle.aes_gcm.specs.Tables.{AreTables, entry, entry_of}

pub v_at_next : (y i : ℕ) → v_at y (i + 1) ≡ next_v (v_at y i)
unfolding v_at
v_at_next y i = rw add-one refl

pub z_at_next : (x y i : ℕ) → z_at x y (i + 1) ≡ bit_xor (z_at x y i) (block_bit x i * v_at y i)
unfolding z_at
z_at_next x y i = rw add-one refl

-- ---- four bits at a time
xor_five : (z a b c d : ℕ) → bit_xor (bit_xor (bit_xor (bit_xor z a) b) c) d ≡ bit_xor z (bit_xor (bit_xor (bit_xor a b) c) d)
xor_five z a b c d = same_from_bits _ _ (λ i. simp bit_at_xor (omega arith))

-- bit j of the nibble of x whose lowest bit has weight 2 ^ k
nibble_3 : (x k m : ℕ) → m ≡ k + 3 → x / 2 ^ k % 16 / 8 % 2 ≡ x / 2 ^ m % 2
nibble_3 x k m e = rw (e, ← shr-shr x k 3) (omega arith)

nibble_2 : (x k m : ℕ) → m ≡ k + 2 → x / 2 ^ k % 16 / 4 % 2 ≡ x / 2 ^ m % 2
nibble_2 x k m e = rw (e, ← shr-shr x k 2) (omega arith)

nibble_1 : (x k m : ℕ) → m ≡ k + 1 → x / 2 ^ k % 16 / 2 % 2 ≡ x / 2 ^ m % 2
nibble_1 x k m e = rw (e, ← shr-shr x k 1) (omega arith)

nibble_0 : (x k m : ℕ) → m ≡ k → x / 2 ^ k % 16 % 2 ≡ x / 2 ^ m % 2
nibble_0 x k m e = rw e (omega arith)

pub z_at_nibble : (x h p : ℕ) → p < 32
    → z_at x h (4 * p + 4) ≡ bit_xor (z_at x h (4 * p)) (entry (v_at h (4 * p)) (x / 2 ^ (124 - 4 * p) % 16))
z_at_nibble x h p lt =
    let i : ℕ = 4 * p in
    let k : ℕ = 124 - 4 * p in
    let n : ℕ = x / 2 ^ k % 16 in
    let b3 : n / 8 % 2 ≡ block_bit x i = nibble_3 x k (127 - i) (omega arith) in
    let b2 : n / 4 % 2 ≡ block_bit x (i + 1) = nibble_2 x k (127 - (i + 1)) (omega arith) in
    let b1 : n / 2 % 2 ≡ block_bit x (i + 1 + 1) = nibble_1 x k (127 - (i + 1 + 1)) (omega arith) in
    let b0 : n % 2 ≡ block_bit x (i + 1 + 1 + 1) = nibble_0 x k (127 - (i + 1 + 1 + 1)) (omega arith) in
    let v : ℕ = v_at h i in
    let four : i + 4 ≡ i + 1 + 1 + 1 + 1 = omega arith in
    rw (four, z_at_next x h (i + 1 + 1 + 1), z_at_next x h (i + 1 + 1), z_at_next x h (i + 1), z_at_next x h i, v_at_next h (i + 1 + 1), v_at_next h (i + 1), v_at_next h i, b3, b2, b1, b0)
    (xor_five (z_at x h i) (block_bit x i * v) (block_bit x (i + 1) * next_v v) (block_bit x (i + 1 + 1) * next_v (next_v v)) (block_bit x (i + 1 + 1 + 1) * next_v (next_v (next_v v))))

-- one entry
pub v_at_four : (h p v : ℕ) → v ≡ v_at h (4 * p) → next_v (next_v (next_v (next_v v))) ≡ v_at h (4 * (p + 1))
v_at_four h p v e =
    let i : ℕ = 4 * p in
    let four : 4 * (p + 1) ≡ i + 1 + 1 + 1 + 1 = omega arith in
    rw (four, v_at_next h (i + 1 + 1 + 1), v_at_next h (i + 1 + 1), v_at_next h (i + 1), v_at_next h i, e) refl

-- byte p of sixteen, from the left
bytes_at : (k p n : ℕ) → p < k → slice_index (bytes_high_first k n) p ≡ byte_at (k - 1 - p) n
bytes_at zero p n lt = absurd (omega arith)
bytes_at (suc k) zero n lt =
    let e : suc k - 1 - 0 ≡ k = omega arith in
    rw e refl
bytes_at (suc k) (suc p) n lt =
    let e : suc k - 1 - suc p ≡ k - 1 - p = omega arith in
    rw e (bytes_at k p n (omega arith))

pow_256 : (i : ℕ) → 256 ^ i ≡ 2 ^ (8 * i)
pow_256 zero = refl
pow_256 (suc i) =
    let e : 8 * suc i ≡ 8 * i + 8 = omega arith in
    rw (pow-suc 256 i, e, pow-add 2 (8 * i) 8) (omega (arith, pow_256 i))

byte_at_is : (i n : ℕ) → byte_at i n ≡ n / 2 ^ (8 * i) % 256
byte_at_is zero n = omega arith
byte_at_is (suc i) n = ap (λ (m : ℕ). n / m % 256) (pow_256 (suc i))

pub be_byte : (x p : ℕ) → p < 16 → slice_index (to_be_bytes w128 x) p ≡ x / 2 ^ (120 - 8 * p) % 256
be_byte x p lt =
    let e : 8 * (16 - 1 - p) ≡ 120 - 8 * p = omega arith in
    bytes_at 16 p x lt ∙ byte_at_is (16 - 1 - p) x ∙ ap (λ (k : ℕ). x / 2 ^ k % 256) e

-- two nibbles of a byte
pub z_at_byte : (x h p b : ℕ) → p < 16 → b ≡ x / 2 ^ (120 - 8 * p) % 256
    → bit_xor (bit_xor (z_at x h (8 * p)) (entry (v_at h (4 * (2 * p))) (b / 16))) (entry (v_at h (4 * (2 * p + 1))) (b % 16)) ≡ z_at x h (8 * (p + 1))
z_at_byte x h p b lt e =
    let k : ℕ = 120 - 8 * p in
    let k4 : 124 - 4 * (2 * p) ≡ k + 4 = omega arith in
    let k0 : 124 - 4 * (2 * p + 1) ≡ k = omega arith in
    let high : b / 16 ≡ x / 2 ^ (124 - 4 * (2 * p)) % 16 = rw (k4, ← shr-shr x k 4, e) (omega arith) in
    let low : b % 16 ≡ x / 2 ^ (124 - 4 * (2 * p + 1)) % 16 = rw (k0, e) (omega arith) in
    let i0 : 8 * p ≡ 4 * (2 * p) = omega arith in
    let i1 : 4 * (2 * p + 1) ≡ 4 * (2 * p) + 4 = omega arith in
    let i2 : 8 * (p + 1) ≡ 4 * (2 * p + 1) + 4 = omega arith in
    let first : bit_xor (z_at x h (4 * (2 * p))) (entry (v_at h (4 * (2 * p))) (b / 16)) ≡ z_at x h (4 * (2 * p + 1)) =
    ap (λ (m : ℕ). bit_xor (z_at x h (4 * (2 * p))) (entry (v_at h (4 * (2 * p))) m)) high ∙ sym (z_at_nibble x h (2 * p) (omega arith)) ∙ ap (z_at x h) (sym i1) in
    let second : bit_xor (z_at x h (4 * (2 * p + 1))) (entry (v_at h (4 * (2 * p + 1))) (b % 16)) ≡ z_at x h (8 * (p + 1)) =
    ap (λ (m : ℕ). bit_xor (z_at x h (4 * (2 * p + 1))) (entry (v_at h (4 * (2 * p + 1))) m)) low ∙ sym (z_at_nibble x h (2 * p + 1) (omega arith)) ∙ ap (z_at x h) (sym i2) in
    ap (λ (m : ℕ). bit_xor (bit_xor (z_at x h m) (entry (v_at h (4 * (2 * p))) (b / 16))) (entry (v_at h (4 * (2 * p + 1))) (b % 16))) i0
    ∙ ap (λ (m : ℕ). bit_xor m (entry (v_at h (4 * (2 * p + 1))) (b % 16))) first ∙ second

-- the sixteen entries, written out
pub row_list : (v v1 v2 v3 : ℕ) →
    0 ∷ v3 ∷ v2 ∷ bit_xor v2 v3 ∷ v1 ∷ bit_xor v1 v3 ∷ bit_xor v1 v2 ∷ bit_xor (bit_xor v1 v2) v3
    ∷ v ∷ bit_xor v v3 ∷ bit_xor v v2 ∷ bit_xor (bit_xor v v2) v3 ∷ bit_xor v v1 ∷ bit_xor (bit_xor v v1) v3
    ∷ bit_xor (bit_xor v v1) v2 ∷ bit_xor (bit_xor (bit_xor v v1) v2) v3 ∷ [] ≡ map (entry_of v v1 v2 v3) (range_with_len 0 16)
row_list v v1 v2 v3 = simp (zero-mul, one-mul, xor_zero_l, xor_zero_r)

pub row_at : (v b : ℕ) (r : List ℕ) → r ≡ map (entry v) (range_with_len 0 16) → b < 16 → slice_index r b ≡ entry v b
row_at v b r e lt = rw e (get_or-map-range_with_len (entry v) 0 16 b b 0 lt (omega arith))

-- the multiples of 0
zero_at : (i : ℕ) → v_at 0 i ≡ 0
unfolding v_at
zero_at zero = refl
zero_at (suc i) = ap next_v (zero_at i)

zero_entry : (b : ℕ) → 0 ≡ entry 0 b
zero_entry b = simp mul-zero refl

pub zero_tables : AreTables 0 (replicate 32 (replicate 16 0))
unfolding AreTables
zero_tables = λ p b lp lb.
    ap (λ (r : List ℕ). slice_index r b) (get_or-replicate 32 p (replicate 16 0) [] lp)
    ∙ get_or-replicate 16 b 0 0 lb ∙ zero_entry b ∙ sym (ap (λ (v : ℕ). entry v b) (zero_at (4 * p)))

-- one more row
pub rows_next : (h v p : ℕ) (t : List (List ℕ)) (r : List ℕ) → length t ≡ 32 → p < 32 → v ≡ v_at h (4 * p) → r ≡ map (entry v) (range_with_len 0 16)
    → ((q b : ℕ) → q < p → b < 16 → slice_index (slice_index_or t q []) b ≡ entry (v_at h (4 * q)) b)
    → (q b : ℕ) → q < p + 1 → b < 16 → slice_index (slice_index_or (slice_set t p r) q []) b ≡ entry (v_at h (4 * q)) b
rows_next h v p t r len lt ev er held q b lq lb = elim (cases_lt q p) [
  | inl below ↦
      let ne : q ≢ p = omega arith in
      rw (get_or-set_other t p q r [] ne) (held q b below lb)
  | inr top ↦
      let e : q ≡ p = omega arith in
      rw (e, get_or-set_same t p r [] (omega arith), ← ev) (row_at v b r er lb)
]

-- one byte of the factor
pub times_by_step : (x h p b z : ℕ) (t : List (List ℕ)) → p < 16 → b ≡ x / 2 ^ (120 - 8 * p) % 256 → AreTables h t → z ≡ z_at x h (8 * p)
    → bit_xor (bit_xor z (slice_index (slice_index_or t (2 * p) []) (b / 16))) (slice_index (slice_index_or t (2 * p + 1) []) (b % 16)) ≡ z_at x h (8 * (p + 1))
unfolding AreTables
times_by_step x h p b z t lt e tables ez =
    rw (tables (2 * p) (b / 16) (omega arith) (omega arith), tables (2 * p + 1) (b % 16) (omega arith) (omega arith), ez) (z_at_byte x h p b lt e)
