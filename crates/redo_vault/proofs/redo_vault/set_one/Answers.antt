use Rattle.std.proofs.Common.{◌∙◌, ap}
use Rattle.outside.specs.View.{at_of, list_of}
use Rattle.redo_vault.proofs.Lists.{sum_changed, sum_lowers}
use Rattle.redo_vault.proofs.redo_vault.set_one.Goals as goal

pub sum_after-buffered-requires-clause-counted : goal.sum_after-buffered-requires-clause-counted
sum_after-buffered-requires-clause-counted c = λ told.
    sum_lowers 0 c.args.list.now.items c.deref.result.now (at_of c.args.change.name) c.args.sums.0 c.len_at-old_bytes.result c.deref.ensures.value c.requires.sums.buffered c.len_at-old_bytes.ensures told

pub sum_after-buffered-requires-clause-changed : goal.sum_after-buffered-requires-clause-changed
sum_after-buffered-requires-clause-changed c = λ told.
    sum_changed 0 c.args.list.now.items c.deref.result.now c.deref-3.result.now c.args.change c.args.sums.0 c.len_at-old_bytes.result c.len_of-new_bytes.result
    c.deref.ensures.value c.requires.increasing (ap list_of c.deref-3.ensures.value ∙ c.set_in_order.ensures.items) c.requires.sums.buffered c.len_at-old_bytes.ensures c.len_of-new_bytes.ensures told

pub sum_after-weight-requires-clause-counted : goal.sum_after-weight-requires-clause-counted
sum_after-weight-requires-clause-counted c = λ told.
    sum_lowers 64 c.args.list.now.items c.deref-2.result.now (at_of c.args.change.name) c.args.sums.1 c.len_at-old_count.result c.deref-2.ensures.value c.requires.sums.weight c.len_at-old_count.ensures told

pub sum_after-weight-requires-clause-changed : goal.sum_after-weight-requires-clause-changed
sum_after-weight-requires-clause-changed c = λ told.
    sum_changed 64 c.args.list.now.items c.deref-2.result.now c.deref-4.result.now c.args.change c.args.sums.1 c.len_at-old_count.result c.len_of-new_count.result
    c.deref-2.ensures.value c.requires.increasing (ap list_of c.deref-4.ensures.value ∙ c.set_in_order.ensures.items) c.requires.sums.weight c.len_at-old_count.ensures c.len_of-new_count.ensures told
