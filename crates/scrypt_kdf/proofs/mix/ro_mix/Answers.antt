use Rattle.std.proofs.Common.{◌≡◌, ℕ, ◌*◌, List, length, ap, ◌∙◌, arith}
use Rattle.scrypt_kdf.specs.Order.{reordered}
use Rattle.scrypt_kdf.specs.Scrypt.{iterate, iterates, ro_mix, turned}
use Rattle.scrypt_kdf.proofs.Diagonals.{reordered_back}
use Rattle.scrypt_kdf.proofs.Lengths.{length-iterate, length-turned}
use Rattle.scrypt_kdf.proofs.mix.ro_mix.Goals as goal

pub returns : goal.returns
unfolding ro_mix
returns c =
    let r : ℕ = c.args.r in
    let n : ℕ = c.args.n in
    let b : List ℕ = c.args.x.now in
    let long : length b ≡ 128 * r = c.requires.len in
    let next : List ℕ = iterate r b n in
    let next_long : length next ≡ 128 * r = length-iterate r b n long in
    let out : List ℕ = turned r n (iterates r n b) next n in
    let out_long : length out ≡ 128 * r = length-turned r n (iterates r n b) next n next_long in
    let filled = c.in_ok-fill.ensures in
    c.reorder-2.ensures
    ∙ ap (reordered 13) (c.look_up.ensures b next long next_long
    (c.as_slice.ensures.value ∙ filled.iterates b long c.reorder.ensures) (filled.next b long c.reorder.ensures))
    ∙ reordered_back out (2 * r) (out_long ∙ omega arith)
