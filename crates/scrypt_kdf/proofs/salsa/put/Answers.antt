use Rattle.std.proofs.Common.{◌+◌, ◌*◌, arith}
use Rattle.std.proofs.lemmas.Simd.{take_more_put_chunk}
use Rattle.scrypt_kdf.proofs.salsa.put.Goals as goal

pub returns : goal.returns
returns c =
    take_more_put_chunk (16 * c.args.i) c.args.block.now c.args.x (16 * c.args.i + 16)
    (omega (arith, c.fits-x.0)) (omega arith)
