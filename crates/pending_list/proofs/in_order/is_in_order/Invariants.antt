use Rattle.std.proofs.Common.{◌≡◌, ◌-◌, drop}
use Rattle.std.specs.FinMap.{is_sorted}
use Rattle.outside.specs.Names.{at_cmp}
use Rattle.outside.specs.View.{list_of}
use Rattle.pending_list.proofs.in_order.is_in_order.Given as goal

abbrev pub invariant-loop-i : goal.invariant-loop-i
invariant-loop-i l = is_sorted at_cmp (list_of l.list) ≡ is_sorted at_cmp (drop (l.i - 1) (list_of l.list))
