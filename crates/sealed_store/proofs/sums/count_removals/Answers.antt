use Rattle.std.proofs.Common.{arith}
use Rattle.sealed_store.proofs.Counts.{removals_more}
use Rattle.sealed_store.proofs.sums.count_removals.Goals as goal

pub loop-pending-preserved : goal.loop-pending-preserved
loop-pending-preserved c =
    let more = removals_more c.args.list.now c.loop-pending.pending-index c.pending-item.result c.loop-pending-test.true c.pending-item.is in
    record {
      count = omega (arith, more, c.one_if_removal-count.ensures.value, c.loop-pending.invariant.count);
      few = omega (arith, c.one_if_removal-count.ensures.most, c.loop-pending.invariant.few);
    }
