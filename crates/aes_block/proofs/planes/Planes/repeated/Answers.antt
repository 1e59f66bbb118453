use Rattle.std.proofs.Common.{◌≡◌, ℕ, List, [], ◌∷◌, slice_index, ◌∙◌}
use Rattle.std.specs.Int.{bit_at}
use Rattle.aes_block.specs.Planes.{bit_of}
use Rattle.aes_block.proofs.Blocks.{repeated_blocks}
use Rattle.aes_block.proofs.Bytes.{below_eight}
use Rattle.aes_block.proofs.planes.Planes.repeated.Goals as goal

pub returns : goal.returns
returns c =
    let v = c.load-bytes.result in
    let planes : List (List ℕ) =
    c.spread.result ∷ c.spread-2.result ∷ c.spread-3.result ∷ c.spread-4.result ∷ c.spread-5.result ∷ c.spread-6.result ∷ c.spread-7.result ∷ c.spread-8.result ∷ [] in
    c.from_planes.ensures
    ∙ repeated_blocks planes v c.args.block c.load-bytes.ensures.vector c.load-bytes.ensures.low c.load-bytes.ensures.high
    (λ p j k lp lj. below_eight (λ k. bit_of planes p j k ≡ bit_at (slice_index v p) k) (c.spread.ensures.bits p j lp lj) (c.spread-2.ensures.bits p j lp lj)
    (c.spread-3.ensures.bits p j lp lj) (c.spread-4.ensures.bits p j lp lj) (c.spread-5.ensures.bits p j lp lj) (c.spread-6.ensures.bits p j lp lj)
    (c.spread-7.ensures.bits p j lp lj) (c.spread-8.ensures.bits p j lp lj) k)
