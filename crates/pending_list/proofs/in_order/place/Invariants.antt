use Rattle.std.proofs.Common.{◌-◌, ◌≤◌, length}
use Rattle.outside.specs.View.{at_of, list_of}
use Rattle.pending_list.proofs.InOrder.{IsPassed, IsBelow}
use Rattle.pending_list.proofs.in_order.place.Given as goal

abbrev pub invariant-loop-from : goal.invariant-loop-from
invariant-loop-from l = record {
  passed : IsPassed (at_of l.name) (list_of l.list) l.from;
  below : IsBelow (at_of l.name) (list_of l.list) l.to;
  rises : l.from ≤ l.to;
  within : l.to ≤ length l.list;
}

abbrev pub decreases-loop-from : goal.decreases-loop-from
decreases-loop-from l = l.to - l.from
