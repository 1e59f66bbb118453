use Rattle.std.proofs.Common.{[], ◌∷◌, sym, ◌∙◌}
use Rattle.aes_block.proofs.Blocks.{transposed_blocks}
use Rattle.aes_block.proofs.planes.Planes.blocks.Goals as goal

pub returns : goal.returns
returns c =
    let l0 = c.low.ensures in
    let h0 = c.high.ensures in
    let l1 = c.low-2.ensures in
    let h1 = c.high-2.ensures in
    let l2 = c.low-3.ensures in
    let h2 = c.high-3.ensures in
    let l3 = c.low-4.ensures in
    let h3 = c.high-4.ensures in
    let l4 = c.low-5.ensures in
    let h4 = c.high-5.ensures in
    let l5 = c.low-6.ensures in
    let h5 = c.high-6.ensures in
    let l6 = c.low-7.ensures in
    let h6 = c.high-7.ensures in
    let l7 = c.low-8.ensures in
    let h7 = c.high-8.ensures in
    (λ i. l0 i ∷ h0 i ∷ l1 i ∷ h1 i ∷ l2 i ∷ h2 i ∷ l3 i ∷ h3 i ∷ l4 i ∷ h4 i ∷ l5 i ∷ h5 i ∷ l6 i ∷ h6 i ∷ l7 i ∷ h7 i ∷ [])
    ∙ sym (c.planes.ensures.value ∙ transposed_blocks c.planes.result c.transpose.result c.transpose.ensures.vectors
    (λ p j k lp lj lk. sym (c.transpose.ensures.bits p k j lp lk lj)))
