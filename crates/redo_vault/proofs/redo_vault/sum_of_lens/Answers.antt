use Rattle.redo_vault.proofs.Lists.{sum_with_more}
use Rattle.redo_vault.proofs.redo_vault.sum_of_lens.Goals as goal

pub loop-pending-preserved : goal.loop-pending-preserved
loop-pending-preserved c =
    sum_with_more c.args.removal c.args.list.now c.loop-pending.pending-index c.pending-item.result c.loop-pending.len c.len_of.result c.saturating_add-len.result
    c.loop-pending-test.true c.pending-item.is c.loop-pending.invariant c.len_of.ensures c.saturating_add-len.ensures
