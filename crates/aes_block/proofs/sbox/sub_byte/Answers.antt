use Rattle.std.proofs.Common.{arith}
use Rattle.aes_block.proofs.SubByte.{sub_byte_table}
use Rattle.aes_block.proofs.sbox.sub_byte.Goals as goal

pub returns : goal.returns
returns c = sub_byte_table c.args.b (omega arith)
