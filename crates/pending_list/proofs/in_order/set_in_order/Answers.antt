use Rattle.std.proofs.Common.{◌∙◌, ap}
use Rattle.outside.specs.View.{list_of}
use Rattle.pending_list.proofs.Lists.{was_set, was_inserted}
use Rattle.pending_list.proofs.in_order.set_in_order.Goals as goal

pub returns-in-Ok-clause-items : goal.returns-in-Ok-clause-items
returns-in-Ok-clause-items c =
    was_set c.args.list.now.items c.deref.result.now c.in-Ok.i c.args.pending c.deref.ensures.value c.in-Ok.ensures.within c.in-Ok.ensures.found

pub returns-in-Ok-insert-clause-items : goal.returns-in-Ok-insert-clause-items
returns-in-Ok-insert-clause-items c =
    ap list_of c.in-Ok-insert.ensures.items
    ∙ was_inserted c.args.list.now.items c.deref.result.now c.in-Err.i c.args.pending c.deref.ensures.value c.in-Err.ensures.absent
