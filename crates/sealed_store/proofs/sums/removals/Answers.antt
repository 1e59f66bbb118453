use Rattle.sealed_store.proofs.Counts.{buffered_le, removals_told}
use Rattle.sealed_store.proofs.sums.removals.Goals as goal

pub overflow_sub-result : goal.overflow_sub-result
overflow_sub-result g c = buffered_le c.args.vault.now.list c.weight-weight.result c.buffered.result c.weight-weight.ensures c.buffered.ensures

pub returns : goal.returns
returns g c = removals_told c.args.vault.now.list c.weight-weight.result c.buffered.result c.weight-weight.ensures c.buffered.ensures c.if-weight.false
