use Rattle.std.proofs.Common.{arith}
use Rattle.check_refused.proofs.Surveying.{calm_none}
use Rattle.check_texts.proofs.Counted.{counted_all, counted_more, others}
use Rattle.check_texts.proofs.counting.count_refused.Goals as goal

pub loop-block-init : goal.loop-block-init
loop-block-init c = let none = calm_none in record { count = omega (arith, none); small = omega arith }

pub returns-clause-others : goal.returns-clause-others
returns-clause-others c =
    let count = c.loop-block.invariant.count in
    let all = counted_all c.args.ungiven.now c.loop-block.block-index (omega arith) in
    let both = others c.args.ungiven.now in
    omega (arith, count, all, both)

pub loop-block-preserved : goal.loop-block-preserved
loop-block-preserved c =
    let more = counted_more c.args.ungiven.now c.loop-block.block-index c.block-item.result c.loop-block-test.true c.block-item.is in
    let inv = c.loop-block.invariant in
    let count = inv.count in
    let low = inv.small in
    let one = c.refused-count.ensures.one in
    let small = c.refused-count.ensures.small in
    record { count = omega (arith, count, more, one); small = omega (arith, low, small) }
