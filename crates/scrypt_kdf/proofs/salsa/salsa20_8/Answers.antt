use Rattle.std.proofs.Common.{ℕ, List, ap, ◌∙◌}
use Rattle.scrypt_kdf.specs.Order.{on_diagonals, reordered}
use Rattle.scrypt_kdf.specs.Rows.{quarters}
use Rattle.scrypt_kdf.specs.Salsa.{salsa20_8}
use Rattle.scrypt_kdf.proofs.Lengths.{length-salsa20_8}
use Rattle.scrypt_kdf.proofs.Diagonals.{length-reordered, reordered_back}
use Rattle.scrypt_kdf.proofs.salsa.salsa20_8.Goals as goal

pub returns : goal.returns
returns c =
    let block : List ℕ = c.args.block.now in
    let out : List ℕ = salsa20_8 block in
    let mixed = c.core-y.ensures block c.told-block (c.load.ensures ∙ ap quarters c.reorder.ensures) in
    let stored = c.store.ensures (on_diagonals out) (length-reordered 5 out ∙ length-salsa20_8 block) mixed in
    c.reorder-2.ensures ∙ ap (reordered 13) stored ∙ reordered_back out 1 (length-salsa20_8 block)
