use Rattle.std.proofs.Common.{arith, ◌∙◌}
use Rattle.aes_gcm.proofs.Hashing.{block_read}
use Rattle.aes_gcm.proofs.hash_key.load_part.Goals as goal

pub returns : goal.returns
returns c = c.from_be_bytes.ensures ∙ block_read c.args.bytes.now _ c.args.i (omega arith) (omega arith) c.block_of.ensures
