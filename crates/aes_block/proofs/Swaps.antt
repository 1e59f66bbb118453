-- A swap of bits between two vectors.
use Rattle.std.proofs.Common.{◌≡◌, ℕ, ◌+◌, ◌-◌, ◌*◌, ◌/◌, ◌%◌, ◌^◌, ◌<◌, ◌≤◌, Bool, true, false, cond, min, List, bit_and, bit_xor, map, replicate, slice_index, refl, sym, ap, ◌∙◌, arith, inl, inr}
use Rattle.std.proofs.lemmas.Bool.{cases_lt}
use Rattle.std.proofs.lemmas.List.{get_or_past}
use Rattle.std.proofs.lemmas.List.FromFn.{get_or-map-range_with_len, length-map-range_with_len}
use Rattle.std.proofs.lemmas.Nat.{pow_pos, shr-shr, shr_split}
use Rattle.std.proofs.lemmas.Nat.Bits.{bit_at-lt, bit_at-zero, bit_at_above, bit_at_and, bit_at_cat_high, bit_at_cat_low, bit_at_xor}
use Rattle.std.specs.Int.{bit_at}
use Rattle.std.specs.List.{range_with_len}
use Rattle.std.specs.Simd.Lanes.{zip2}
use Rattle.aes_block.specs.Planes.{IsVector}
use Rattle.aes_block.specs.Swaps.{high_places, high_swapped, is_low, lane_bits, low_places, low_swapped, mask_bits}
use Rattle.aes_block.proofs.Bytes.{row_at, row_same}
use Rattle.aes_block.proofs.Lanes.{and_below, down_vector, shifted_down, shifted_up, splat_lane, splat_vector, up_vector, xor_below, zip_lane, zip_vector}

-- ---- bits of shifted bytes

raised_byte : (n s i : ℕ) → i < 8 → bit_at (n * 2 ^ s % 2 ^ 8) i ≡ bit_at (n * 2 ^ s + 0) i
raised_byte n s i lt =
    sym (bit_at_cat_low (n * 2 ^ s / 2 ^ 8) 8 (n * 2 ^ s % 2 ^ 8) i lt) ∙ ap (λ m. bit_at m i) (shr_split (n * 2 ^ s) 8 ∙ omega arith)

raised_low : (n s i : ℕ) → i < 8 → i < s → bit_at (n * 2 ^ s % 2 ^ 8) i ≡ 0
raised_low n s i lt below = raised_byte n s i lt ∙ bit_at_cat_low n s 0 i below ∙ bit_at-zero i

raised_high : (n s i : ℕ) → i < 8 → s ≤ i → bit_at (n * 2 ^ s % 2 ^ 8) i ≡ bit_at n (i - s)
raised_high n s i lt above = raised_byte n s i lt ∙ bit_at_cat_high n s 0 i (omega (arith, pow_pos s)) above

lowered_bit : (n s i j : ℕ) → s + i ≡ j → bit_at (n / 2 ^ s) i ≡ bit_at n j
lowered_bit n s i j e = ap (λ m. m % 2) (shr-shr n s i) ∙ ap (bit_at n) e

-- ---- two bytes: b says which bit is taken

from_low : (b : Bool) (x y t : ℕ) → x < 2 → y < 2 → t ≡ min ((x + y) % 2) (cond b 0 1) → (x + t) % 2 ≡ cond b x y
from_low true x y t hx hy e = omega arith
from_low false x y t hx hy e = omega arith

from_high : (b : Bool) (x y t : ℕ) → x < 2 → y < 2 → t ≡ min ((x + y) % 2) (cond b 1 0) → (y + t) % 2 ≡ cond b x y
from_high true x y t hx hy e = omega arith
from_high false x y t hx hy e = omega arith

-- the bits of x that change places with those of y under mask m
abbrev pub moved : ℕ → ℕ → ℕ → ℕ → ℕ
moved x y s m = bit_and (bit_xor (x / 2 ^ s) y) m

moved_bit : (x y s m i : ℕ) → bit_at (moved x y s m) i ≡ min ((bit_at x (s + i) + bit_at y i) % 2) (bit_at m i)
moved_bit x y s m i =
    bit_at_and (bit_xor (x / 2 ^ s) y) m i
    ∙ ap (λ b. min b (bit_at m i)) (bit_at_xor (x / 2 ^ s) y i ∙ ap (λ b. (b + bit_at y i) % 2) (lowered_bit x s i (s + i) refl))

low_bit : (x y s m i : ℕ) → i < 8 → bit_at (m * 2 ^ s % 2 ^ 8) i ≡ cond (is_low s i) 0 1
    → bit_at (bit_xor x (moved x y s m * 2 ^ s % 2 ^ 8)) i ≡ cond (is_low s i) (bit_at x i) (bit_at y (i - s))
low_bit x y s m i lt mask =
    let t : ℕ = bit_at (moved x y s m * 2 ^ s % 2 ^ 8) i in
    let given : t ≡ min ((bit_at x i + bit_at y (i - s)) % 2) (cond (is_low s i) 0 1) = elim (cases_lt i s) [
      | inl below ↦
          let none : cond (is_low s i) 0 1 ≡ 0 = sym mask ∙ raised_low m s i lt below in
          raised_low (moved x y s m) s i lt below ∙ sym (omega (arith, none))
      | inr above ↦
          let e : s + (i - s) ≡ i = omega arith in
          raised_high (moved x y s m) s i lt above ∙ moved_bit x y s m (i - s)
          ∙ (λ k. min ((bit_at x (e k) + bit_at y (i - s)) % 2) ((sym (raised_high m s i lt above) ∙ mask) k))
    ] in
    bit_at_xor x (moved x y s m * 2 ^ s % 2 ^ 8) i
    ∙ from_low (is_low s i) (bit_at x i) (bit_at y (i - s)) t (bit_at-lt x i) (bit_at-lt y (i - s)) given

high_bit : (x y s m i : ℕ) → bit_at m i ≡ cond (is_low s i) 1 0
    → bit_at (bit_xor y (moved x y s m)) i ≡ cond (is_low s i) (bit_at x (i + s)) (bit_at y i)
high_bit x y s m i mask =
    let e : s + i ≡ i + s = omega arith in
    bit_at_xor y (moved x y s m) i
    ∙ from_high (is_low s i) (bit_at x (i + s)) (bit_at y i) (bit_at (moved x y s m) i) (bit_at-lt x (i + s)) (bit_at-lt y i)
    (moved_bit x y s m i ∙ (λ k. min ((bit_at x (e k) + bit_at y i) % 2) (mask k)))

-- ---- lanes

lane_bits_at : (v : List ℕ) (p n : ℕ) → slice_index v p < 256 → slice_index (lane_bits v p) n ≡ bit_at (slice_index v p) n
lane_bits_at v p n below = elim (cases_lt n 8) [
  | inl lt ↦ get_or-map-range_with_len (bit_at (slice_index v p)) 0 8 n n 0 lt (omega arith)
  | inr ge ↦
      get_or_past (lane_bits v p) n 0 (omega (arith, length-map-range_with_len (bit_at (slice_index v p)) 0 8))
      ∙ sym (bit_at_above (slice_index v p) 8 n below ge)
]

-- ---- vectors

abbrev pub moved_lanes : List ℕ → List ℕ → ℕ → ℕ → List ℕ
moved_lanes x y s m = zip2 bit_and (zip2 bit_xor (zip2 shifted_down x (replicate 32 s)) y) (replicate 32 m)

abbrev pub low_lanes : List ℕ → List ℕ → ℕ → ℕ → List ℕ
low_lanes x y s m = zip2 bit_xor x (zip2 shifted_up (moved_lanes x y s m) (replicate 32 s))

abbrev pub high_lanes : List ℕ → List ℕ → ℕ → ℕ → List ℕ
high_lanes x y s m = zip2 bit_xor y (moved_lanes x y s m)

module _ (x y : List ℕ) (s m : ℕ) (hx : IsVector x) (hy : IsVector y) (hs : s < 256) (hm : m < 256) where
  sum_vector : IsVector (zip2 bit_xor (zip2 shifted_down x (replicate 32 s)) y)
  sum_vector = zip_vector bit_xor xor_below (zip2 shifted_down x (replicate 32 s)) y (down_vector x s hx hs) hy

  moved_vector : IsVector (moved_lanes x y s m)
  moved_vector = zip_vector bit_and and_below (zip2 bit_xor (zip2 shifted_down x (replicate 32 s)) y) (replicate 32 m) sum_vector (splat_vector m hm)

  pub low_vector : IsVector (low_lanes x y s m)
  low_vector = zip_vector bit_xor xor_below x (zip2 shifted_up (moved_lanes x y s m) (replicate 32 s)) hx (up_vector (moved_lanes x y s m) s moved_vector hs)

  pub high_vector : IsVector (high_lanes x y s m)
  high_vector = zip_vector bit_xor xor_below y (moved_lanes x y s m) hy moved_vector

  moved_lane : (p : ℕ) → p < 32 → slice_index (moved_lanes x y s m) p ≡ moved (slice_index x p) (slice_index y p) s m
  moved_lane p lt =
      splat_lane bit_and (zip2 bit_xor (zip2 shifted_down x (replicate 32 s)) y) m p sum_vector hm lt
      ∙ ap (λ n. bit_and n m) (zip_lane bit_xor (zip2 shifted_down x (replicate 32 s)) y p (down_vector x s hx hs) hy lt
      ∙ ap (λ n. bit_xor n (slice_index y p)) (splat_lane shifted_down x s p hx hs lt))

  low_lane : (p : ℕ) → p < 32 → slice_index (low_lanes x y s m) p ≡ bit_xor (slice_index x p) (moved (slice_index x p) (slice_index y p) s m * 2 ^ s % 2 ^ 8)
  low_lane p lt =
      zip_lane bit_xor x (zip2 shifted_up (moved_lanes x y s m) (replicate 32 s)) p hx (up_vector (moved_lanes x y s m) s moved_vector hs) lt
      ∙ ap (bit_xor (slice_index x p)) (splat_lane shifted_up (moved_lanes x y s m) s p moved_vector hs lt ∙ ap (λ n. shifted_up n s) (moved_lane p lt))

  high_lane : (p : ℕ) → p < 32 → slice_index (high_lanes x y s m) p ≡ bit_xor (slice_index y p) (moved (slice_index x p) (slice_index y p) s m)
  high_lane p lt = zip_lane bit_xor y (moved_lanes x y s m) p hy moved_vector lt ∙ ap (bit_xor (slice_index y p)) (moved_lane p lt)

  pub low_row : mask_bits (m * 2 ^ s % 256) ≡ high_places s → (p : ℕ) → p < 32 → lane_bits (low_lanes x y s m) p ≡ low_swapped s (lane_bits x p) (lane_bits y p)
  low_row mask p lt =
      ap (λ n. map (bit_at n) (range_with_len 0 8)) (low_lane p lt)
      ∙ row_same _ _ (λ i li.
      low_bit (slice_index x p) (slice_index y p) s m i li (row_at (bit_at (m * 2 ^ s % 256)) (λ i. cond (is_low s i) 0 1) mask i li)
      ∙ sym (λ k. cond (is_low s i) (lane_bits_at x p i (hx.1 p lt) k) (lane_bits_at y p (i - s) (hy.1 p lt) k)))

  pub high_row : mask_bits m ≡ low_places s → (p : ℕ) → p < 32 → lane_bits (high_lanes x y s m) p ≡ high_swapped s (lane_bits x p) (lane_bits y p)
  high_row mask p lt =
      ap (λ n. map (bit_at n) (range_with_len 0 8)) (high_lane p lt)
      ∙ row_same _ _ (λ i li.
      high_bit (slice_index x p) (slice_index y p) s m i (row_at (bit_at m) (λ i. cond (is_low s i) 1 0) mask i li)
      ∙ sym (λ k. cond (is_low s i) (lane_bits_at x p (i + s) (hx.1 p lt) k) (lane_bits_at y p i (hy.1 p lt) k)))
