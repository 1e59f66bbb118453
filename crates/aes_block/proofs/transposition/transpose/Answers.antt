use Rattle.std.proofs.Common.{◌≡◌, ℕ, ◌<◌, List, [], ◌∷◌, map, slice_index, slice_index_or, ◌∙◌}
use Rattle.std.specs.Int.{bit_at}
use Rattle.std.specs.List.{range_with_len}
use Rattle.aes_block.specs.Planes.{bit_of}
use Rattle.aes_block.specs.Swaps.{high_swapped, lane_bits, low_swapped}
use Rattle.aes_block.proofs.Bytes.{below_eight, row_at}
use Rattle.aes_block.proofs.transposition.transpose.Goals as goal

-- bit k of lane p of each vector
abbrev column : List (List ℕ) → ℕ → ℕ → List ℕ
column a p k = map (λ j. bit_of a p k j) (range_with_len 0 8)

pub returns-clause-bits : goal.returns-clause-bits
returns-clause-bits c = λ p j k lp lj lk.
    let a = c.args.a in
    let out : List (List ℕ) =
    c.swap-9.result.0 ∷ c.swap-10.result.0 ∷ c.swap-11.result.0 ∷ c.swap-12.result.0 ∷ c.swap-9.result.1 ∷ c.swap-10.result.1 ∷ c.swap-11.result.1 ∷ c.swap-12.result.1 ∷ [] in
    let b0 = c.swap.ensures.low p lp in
    let b1 = c.swap.ensures.high p lp in
    let b2 = c.swap-2.ensures.low p lp in
    let b3 = c.swap-2.ensures.high p lp in
    let b4 = c.swap-3.ensures.low p lp in
    let b5 = c.swap-3.ensures.high p lp in
    let b6 = c.swap-4.ensures.low p lp in
    let b7 = c.swap-4.ensures.high p lp in
    let c0 = c.swap-5.ensures.low p lp ∙ (λ i. low_swapped 2 (b0 i) (b2 i)) in
    let c1 = c.swap-6.ensures.low p lp ∙ (λ i. low_swapped 2 (b1 i) (b3 i)) in
    let c2 = c.swap-5.ensures.high p lp ∙ (λ i. high_swapped 2 (b0 i) (b2 i)) in
    let c3 = c.swap-6.ensures.high p lp ∙ (λ i. high_swapped 2 (b1 i) (b3 i)) in
    let c4 = c.swap-7.ensures.low p lp ∙ (λ i. low_swapped 2 (b4 i) (b6 i)) in
    let c5 = c.swap-8.ensures.low p lp ∙ (λ i. low_swapped 2 (b5 i) (b7 i)) in
    let c6 = c.swap-7.ensures.high p lp ∙ (λ i. high_swapped 2 (b4 i) (b6 i)) in
    let c7 = c.swap-8.ensures.high p lp ∙ (λ i. high_swapped 2 (b5 i) (b7 i)) in
    let d0 = c.swap-9.ensures.low p lp ∙ (λ i. low_swapped 4 (c0 i) (c4 i)) in
    let d1 = c.swap-10.ensures.low p lp ∙ (λ i. low_swapped 4 (c1 i) (c5 i)) in
    let d2 = c.swap-11.ensures.low p lp ∙ (λ i. low_swapped 4 (c2 i) (c6 i)) in
    let d3 = c.swap-12.ensures.low p lp ∙ (λ i. low_swapped 4 (c3 i) (c7 i)) in
    let d4 = c.swap-9.ensures.high p lp ∙ (λ i. high_swapped 4 (c0 i) (c4 i)) in
    let d5 = c.swap-10.ensures.high p lp ∙ (λ i. high_swapped 4 (c1 i) (c5 i)) in
    let d6 = c.swap-11.ensures.high p lp ∙ (λ i. high_swapped 4 (c2 i) (c6 i)) in
    let d7 = c.swap-12.ensures.high p lp ∙ (λ i. high_swapped 4 (c3 i) (c7 i)) in
    let rows : (k : ℕ) → k < 8 → lane_bits (slice_index_or out k []) p ≡ column a p k = below_eight (λ k. lane_bits (slice_index_or out k []) p ≡ column a p k) d0 d1 d2 d3 d4 d5 d6 d7 in
    row_at (bit_at (slice_index (slice_index_or out k []) p)) (λ j. bit_of a p k j) (rows k lk) j lj
