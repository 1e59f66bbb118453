use Rattle.pending_list.proofs.Lists.{IsBeyond}
use Rattle.outside.specs.View.{at_of, list_of}
use Rattle.pending_list.proofs.list.place.Given as goal

abbrev pub invariant-loop-i : goal.invariant-loop-i
invariant-loop-i l = IsBeyond (at_of l.name) (list_of l.list) l.i
