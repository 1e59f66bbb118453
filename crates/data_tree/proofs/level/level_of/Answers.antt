use Rattle.std.proofs.Common.{◌^◌, arith}
use Rattle.data_tree.proofs.Levels.{too_deep, depth_some}
use Rattle.data_tree.proofs.level.level_of.Goals as goal

pub returns-then-room-ge-MOST_BYTES-clause-none : goal.returns-then-room-ge-MOST_BYTES-clause-none
returns-then-room-ge-MOST_BYTES-clause-none c = λ n few deep. too_deep c.args.payload c.loop-i.i c.args.depth n _ c.requires.least (omega (arith, c.if-room-ge-MOST_BYTES.true, c.loop-i.invariant.is)) c.loop-i-test.true few deep

pub returns-clause-some : goal.returns-clause-some
returns-clause-some c = depth_some c.args.payload c.args.depth (2 ^ 40) c.requires.least (λ low e. c.loop-i.invariant.above low (omega (arith, e, c.loop-i-test.false, c.loop-i.auto.i-end)))
