-- A bit of each lane, spread over the lane.
use Rattle.std.proofs.Common.{◌≡◌, ℕ, ◌+◌, ◌-◌, ◌%◌, ◌^◌, ◌<◌, List, bit_and, replicate, slice_index, ap, ◌∙◌, arith, inl, inr}
use Rattle.std.proofs.lemmas.Bool.{cases_lt}
use Rattle.std.proofs.lemmas.Nat.Bits.{bit_at-lt, bit_at-zero, bit_at_ones, shr_and_one}
use Rattle.std.proofs.lemmas.Simd.{get_or-replicate}
use Rattle.std.specs.Int.{bit_at}
use Rattle.std.specs.Simd.Lanes.{zip2}
use Rattle.aes_block.specs.Planes.{IsVector}
use Rattle.aes_block.proofs.Lanes.{and_below, down_vector, shifted_down, splat_lane, splat_vector, zip_lane, zip_vector}

abbrev negated : ℕ → ℕ → ℕ
negated m n = (m + (2 ^ 8 - n)) % 2 ^ 8

filled : (b j : ℕ) → b < 2 → j < 8 → bit_at (negated 0 b) j ≡ b
filled b j small lj = elim (cases_lt b 1) [
  | inl none ↦
      let e : b ≡ 0 = omega arith in
      rw e (bit_at-zero j)
  | inr some ↦
      let e : b ≡ 1 = omega arith in
      rw e (bit_at_ones 8 j lj)
]

-- bit k of each lane, alone
abbrev pub bit_lanes : List ℕ → ℕ → List ℕ
bit_lanes v k = zip2 bit_and (zip2 shifted_down v (replicate 32 k)) (replicate 32 1)

abbrev pub spread_lanes : List ℕ → ℕ → List ℕ
spread_lanes v k = zip2 negated (replicate 32 0) (bit_lanes v k)

module _ (v : List ℕ) (k : ℕ) (hv : IsVector v) (hk : k < 8) where
  bits_vector : IsVector (bit_lanes v k)
  bits_vector = zip_vector bit_and and_below (zip2 shifted_down v (replicate 32 k)) (replicate 32 1) (down_vector v k hv (omega arith)) (splat_vector 1 (omega arith))

  pub spread_vector : IsVector (spread_lanes v k)
  spread_vector = zip_vector negated (λ a b ha hb. omega arith) (replicate 32 0) (bit_lanes v k) (splat_vector 0 (omega arith)) bits_vector

  bits_lane : (p : ℕ) → p < 32 → slice_index (bit_lanes v k) p ≡ bit_at (slice_index v p) k
  bits_lane p lt =
      splat_lane bit_and (zip2 shifted_down v (replicate 32 k)) 1 p (down_vector v k hv (omega arith)) (omega arith) lt
      ∙ ap (λ n. bit_and n 1) (splat_lane shifted_down v k p hv (omega arith) lt) ∙ shr_and_one (slice_index v p) k

  pub spread_bits : (p j : ℕ) → p < 32 → j < 8 → bit_at (slice_index (spread_lanes v k) p) j ≡ bit_at (slice_index v p) k
  spread_bits p j lt lj =
      ap (λ n. bit_at n j) (zip_lane negated (replicate 32 0) (bit_lanes v k) p (splat_vector 0 (omega arith)) bits_vector lt
      ∙ (λ i. negated (get_or-replicate 32 p 0 0 lt i) (bits_lane p lt i)))
      ∙ filled (bit_at (slice_index v p) k) j (bit_at-lt (slice_index v p) k) lj
