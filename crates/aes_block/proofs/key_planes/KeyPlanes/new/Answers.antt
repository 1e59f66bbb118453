use Rattle.std.proofs.Common.{[], ◌∷◌, sym, ap, ◌∙◌}
use Rattle.aes_block.specs.KeyExpansion.{key_expansion}
use Rattle.aes_block.specs.Planes.{repeated_keys}
use Rattle.aes_block.proofs.key_planes.KeyPlanes.new.Goals as goal

pub invariant_of-result : goal.invariant_of-result
invariant_of-result c =
    let e0 = c.repeated_key.ensures in let e1 = c.repeated_key-2.ensures in let e2 = c.repeated_key-3.ensures in
    let e3 = c.repeated_key-4.ensures in let e4 = c.repeated_key-5.ensures in let e5 = c.repeated_key-6.ensures in
    let e6 = c.repeated_key-7.ensures in let e7 = c.repeated_key-8.ensures in let e8 = c.repeated_key-9.ensures in
    let e9 = c.repeated_key-10.ensures in let e10 = c.repeated_key-11.ensures in let e11 = c.repeated_key-12.ensures in
    let e12 = c.repeated_key-13.ensures in let e13 = c.repeated_key-14.ensures in let e14 = c.repeated_key-15.ensures in
    (λ i. e0 i ∷ e1 i ∷ e2 i ∷ e3 i ∷ e4 i ∷ e5 i ∷ e6 i ∷ e7 i ∷ e8 i ∷ e9 i ∷ e10 i ∷ e11 i ∷ e12 i ∷ e13 i ∷ e14 i ∷ [])
    ∙ ap (λ key. repeated_keys (key_expansion key)) (sym c.key.ensures)
