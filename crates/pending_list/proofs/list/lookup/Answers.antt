use Rattle.outside.specs.View.{at_of}
use Rattle.pending_list.proofs.Lists.{lookup_found, lookup_later}
use Rattle.pending_list.proofs.list.lookup.Goals as goal

pub returns-then-is_same-clause-some : goal.returns-then-is_same-clause-some
returns-then-is_same-clause-some c =
    lookup_found (at_of c.args.name.now) c.args.list.now c.loop-pending.pending-index c.pending-item.result c.is_same.result c.loop-pending-test.true c.pending-item.is c.is_same.ensures c.if-is_same.true c.loop-pending.invariant

pub loop-pending-preserved : goal.loop-pending-preserved
loop-pending-preserved c =
    lookup_later (at_of c.args.name.now) c.args.list.now c.loop-pending.pending-index c.pending-item.result c.is_same.result c.loop-pending-test.true c.pending-item.is c.is_same.ensures c.if-is_same.false c.loop-pending.invariant
