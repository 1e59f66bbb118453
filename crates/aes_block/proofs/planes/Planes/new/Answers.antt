use Rattle.std.proofs.Common.{◌≡◌, ℕ, List, [], ◌∷◌, length, slice_index_or, ◌∙◌, rules}
use Rattle.aes_block.specs.Planes.{IsVector}
use Rattle.aes_block.proofs.Blocks.{transposed_blocks}
use Rattle.aes_block.proofs.Bytes.{below_eight}
use Rattle.aes_block.proofs.Lanes.{first_all}
use Rattle.aes_block.proofs.planes.Planes.new.Goals as goal

pub returns : goal.returns
returns c =
    let vs : List (List ℕ) =
    c.load.result ∷ c.load-2.result ∷ c.load-3.result ∷ c.load-4.result ∷ c.load-5.result ∷ c.load-6.result ∷ c.load-7.result ∷ c.load-8.result ∷ [] in
    let l0 = c.load.ensures in let l1 = c.load-2.ensures in let l2 = c.load-3.ensures in let l3 = c.load-4.ensures in
    let l4 = c.load-5.ensures in let l5 = c.load-6.ensures in let l6 = c.load-7.ensures in let l7 = c.load-8.ensures in
    let sixteen : length c.args.blocks.now ≡ 16 = search rules in
    c.from_planes.ensures
    ∙ transposed_blocks c.transpose.result vs
    (below_eight (λ k. IsVector (slice_index_or vs k [])) l0.vector l1.vector l2.vector l3.vector l4.vector l5.vector l6.vector l7.vector) c.transpose.ensures.bits
    ∙ (λ i. l0.low i ∷ l0.high i ∷ l1.low i ∷ l1.high i ∷ l2.low i ∷ l2.high i ∷ l3.low i ∷ l3.high i ∷ l4.low i ∷ l4.high i ∷ l5.low i ∷ l5.high i ∷ l6.low i ∷ l6.high i ∷ l7.low i ∷ l7.high i ∷ [])
    ∙ first_all 16 c.args.blocks.now sixteen
