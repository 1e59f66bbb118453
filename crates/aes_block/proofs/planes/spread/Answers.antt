use Rattle.std.proofs.Common.{arith}
use Rattle.aes_block.proofs.Spread.{spread_bits, spread_vector}
use Rattle.aes_block.proofs.Lanes.{vector_from}
use Rattle.aes_block.proofs.planes.spread.Goals as goal

pub returns-clause-vector : goal.returns-clause-vector
returns-clause-vector c = spread_vector c.args.bytes c.args.k (vector_from c.args.bytes c.fits-bytes) (omega arith)

pub returns-clause-bits : goal.returns-clause-bits
returns-clause-bits c = spread_bits c.args.bytes c.args.k (vector_from c.args.bytes c.fits-bytes) (omega arith)
