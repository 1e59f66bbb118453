use Rattle.std.proofs.Common.{◌≡◌, ℕ, ◌*◌, List, length, ap, ◌∙◌, arith}
use Rattle.scrypt_kdf.specs.Order.{reordered}
use Rattle.scrypt_kdf.specs.Scrypt.{block_mix}
use Rattle.scrypt_kdf.proofs.Diagonals.{reordered_back}
use Rattle.scrypt_kdf.proofs.Lengths.{length-block_mix}
use Rattle.scrypt_kdf.proofs.mix.mix_blocks.Goals as goal

pub returns : goal.returns
returns c =
    let r : ℕ = c.args.r in
    let b : List ℕ = c.args.b.now in
    let long : length b ≡ 128 * r = c.requires.from in
    c.reorder-2.ensures
    ∙ ap (reordered 13) (c.block_mix.ensures b long c.reorder.ensures)
    ∙ reordered_back (block_mix r b) (2 * r) (length-block_mix r b ∙ omega arith)
