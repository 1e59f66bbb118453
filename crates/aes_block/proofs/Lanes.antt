-- Vectors of thirty-two bytes, lane by lane.
use Rattle.std.proofs.Common.{◌≡◌, ℕ, zero, suc, ◌+◌, ◌*◌, ◌/◌, ◌%◌, ◌^◌, ◌<◌, ◌≤◌, min, List, [], bit_and, bit_xor, length, map, replicate, slice_index, slice_index_or, refl, sym, ap, ◌∙◌, arith, Fits, w8}
use Rattle.std.proofs.lemmas.List.FromFn.{fill_by_all, get_or-map-range_with_len, length-map-range_with_len}
use Rattle.std.proofs.lemmas.Nat.{and_le_l, shr_le, xor_lt}
use Rattle.std.proofs.lemmas.Nat.Bits.{bit_at_and, bit_at_ones, bit_at_xor}
use Rattle.std.proofs.lemmas.Simd.{Each1-get_or, get_or-replicate, get_or-zip2, length-replicate, length-zip2}
use Rattle.std.specs.Int.{bit_at}
use Rattle.std.specs.List.{range_with_len}
use Rattle.std.specs.Simd.Lanes.{Each1, zip2}
use Rattle.aes_block.specs.Planes.{AreVectors, IsVector, first, shuffled}

-- bit j of lane p
abbrev pub lane_bit : ℕ → ℕ → List ℕ → ℕ
lane_bit p j v = bit_at (slice_index v p) j

-- by what a vector's type says
pub vector_from : (v : List ℕ) → (length v ≡ 32) × Each1 (Fits w8) v → IsVector v
vector_from v h = (h.0, λ p lt. (Each1-get_or (Fits w8) v p 0 (omega (arith, h.0)) h.1).fits)

-- ---- an operation on each two lanes

pub zip_lane : (f : ℕ → ℕ → ℕ) (v w : List ℕ) (p : ℕ) → IsVector v → IsVector w → p < 32 → slice_index (zip2 f v w) p ≡ f (slice_index v p) (slice_index w p)
zip_lane f v w p hv hw lt = get_or-zip2 f v w p 0 0 0 (omega (arith, hv.0)) (omega (arith, hw.0))

pub zip_vector : (f : ℕ → ℕ → ℕ) → ((a b : ℕ) → a < 256 → b < 256 → f a b < 256) → (v w : List ℕ) → IsVector v → IsVector w → IsVector (zip2 f v w)
zip_vector f below v w hv hw = (
  length-zip2 f v w (hv.0 ∙ sym hw.0) ∙ hv.0,
  λ p lt. rw (zip_lane f v w p hv hw lt) (below (slice_index v p) (slice_index w p) (hv.1 p lt) (hw.1 p lt)),
)

pub xor_below : (a b : ℕ) → a < 256 → b < 256 → bit_xor a b < 256
xor_below a b = xor_lt 8 a b

pub and_below : (a b : ℕ) → a < 256 → b < 256 → bit_and a b < 256
and_below a b ha hb = omega (arith, and_le_l a b)

pub splat_vector : (b : ℕ) → b < 256 → IsVector (replicate 32 b)
splat_vector b lt = (length-replicate 32 b, λ p below. rw (get_or-replicate 32 p b 0 below) lt)

-- the same with one byte for all lanes
pub splat_lane : (f : ℕ → ℕ → ℕ) (v : List ℕ) (b p : ℕ) → IsVector v → b < 256 → p < 32 → slice_index (zip2 f v (replicate 32 b)) p ≡ f (slice_index v p) b
splat_lane f v b p hv below lt = zip_lane f v (replicate 32 b) p hv (splat_vector b below) lt ∙ ap (f (slice_index v p)) (get_or-replicate 32 p b 0 lt)

-- ---- shifts of each lane

abbrev pub shifted_down : ℕ → ℕ → ℕ
shifted_down n s = n / 2 ^ s

abbrev pub shifted_up : ℕ → ℕ → ℕ
shifted_up n s = n * 2 ^ s % 2 ^ 8

pub down_vector : (v : List ℕ) (s : ℕ) → IsVector v → s < 256 → IsVector (zip2 shifted_down v (replicate 32 s))
down_vector v s hv hs = zip_vector shifted_down (λ a b ha hb. omega (arith, shr_le a b)) v (replicate 32 s) hv (splat_vector s hs)

pub up_vector : (v : List ℕ) (s : ℕ) → IsVector v → s < 256 → IsVector (zip2 shifted_up v (replicate 32 s))
up_vector v s hv hs = zip_vector shifted_up (λ a b ha hb. omega arith) v (replicate 32 s) hv (splat_vector s hs)

-- ---- bits of sums and products

pub sum_bit : (v w : List ℕ) (p j : ℕ) → IsVector v → IsVector w → p < 32 → lane_bit p j (zip2 bit_xor v w) ≡ (lane_bit p j v + lane_bit p j w) % 2
sum_bit v w p j hv hw lt = ap (λ n. bit_at n j) (zip_lane bit_xor v w p hv hw lt) ∙ bit_at_xor (slice_index v p) (slice_index w p) j

pub product_bit : (v w : List ℕ) (p j : ℕ) → IsVector v → IsVector w → p < 32 → lane_bit p j (zip2 bit_and v w) ≡ min (lane_bit p j v) (lane_bit p j w)
product_bit v w p j hv hw lt = ap (λ n. bit_at n j) (zip_lane bit_and v w p hv hw lt) ∙ bit_at_and (slice_index v p) (slice_index w p) j

pub splat_bit : (b p j : ℕ) → p < 32 → lane_bit p j (replicate 32 b) ≡ bit_at b j
splat_bit b p j lt = ap (λ n. bit_at n j) (get_or-replicate 32 p b 0 lt)

pub flip_bit : (v : List ℕ) (p j : ℕ) → IsVector v → p < 32 → j < 8 → lane_bit p j (zip2 bit_xor v (replicate 32 255)) ≡ (lane_bit p j v + 1) % 2
flip_bit v p j hv lt lj =
    sum_bit v (replicate 32 255) p j hv (splat_vector 255 (omega arith)) lt
    ∙ ap (λ x. (lane_bit p j v + x) % 2) (splat_bit 255 p j lt ∙ bit_at_ones 8 j lj)

-- ---- shuffles

pub shuffled_lane : (f : ℕ → ℕ) (v : List ℕ) (p : ℕ) → p < 32 → slice_index (shuffled f v) p ≡ slice_index v (f p)
shuffled_lane f v p lt = get_or-map-range_with_len (λ p. slice_index v (f p)) 0 32 p p 0 lt (omega arith)

pub shuffled_vector : (f : ℕ → ℕ) → ((p : ℕ) → p < 32 → f p < 32) → (v : List ℕ) → IsVector v → IsVector (shuffled f v)
shuffled_vector f within v hv =
    (length-map-range_with_len (λ p. slice_index v (f p)) 0 32, λ p lt. rw (shuffled_lane f v p lt) (hv.1 (f p) (within p lt)))

-- ---- lists of vectors

pub first_at : (n : ℕ) (vs : List (List ℕ)) (k : ℕ) → k < n → slice_index_or (first n vs) k [] ≡ slice_index_or vs k []
first_at n vs k lt = get_or-map-range_with_len (λ k. slice_index_or vs k []) 0 n k k [] lt (omega arith)

pub first_all : (n : ℕ) (vs : List (List ℕ)) → length vs ≡ n → first n vs ≡ vs
first_all n vs len = sym (fill_by_all (λ k. slice_index_or vs k []) vs n [] len (λ k lt. refl))

-- from the vectors that a function gives at a to a + n - 1
pub each_of_range : {X : Type 0} (P : X → Type 0) (f : ℕ → X) (a n : ℕ) → ((k : ℕ) → k < a + n → P (f k)) → Each1 P (map f (range_with_len a n))
each_of_range P f a zero h = tt
each_of_range P f a (suc n) h = (h a (omega arith), each_of_range P f (a + 1) n (λ k lt. h k (omega arith)))

pub first_vectors : (vs : List (List ℕ)) → AreVectors vs → Each1 IsVector (first 8 vs)
first_vectors vs h = each_of_range IsVector (λ k. slice_index_or vs k []) 0 8 (λ k lt. h k (omega arith))

pub are_vectors : (vs : List (List ℕ)) → 8 ≤ length vs → Each1 IsVector vs → AreVectors vs
are_vectors vs len h k lt = Each1-get_or IsVector vs k [] (omega arith) h
