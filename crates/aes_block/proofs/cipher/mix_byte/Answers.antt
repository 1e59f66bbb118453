use Rattle.std.proofs.Common.{arith}
use Rattle.aes_block.proofs.Xor.{mixed_short}
use Rattle.aes_block.proofs.cipher.mix_byte.Goals as goal

pub returns : goal.returns
returns c = rw c.xtime.ensures (mixed_short c.args.a c.args.b c.args.c c.args.d (omega arith) (omega arith))
