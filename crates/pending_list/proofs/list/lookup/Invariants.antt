use Rattle.std.proofs.Common.{◌≡◌, drop}
use Rattle.outside.specs.Changes.{change_at}
use Rattle.outside.specs.View.{at_of, list_of}
use Rattle.pending_list.proofs.list.lookup.Given as goal

abbrev pub invariant-loop-pending : goal.invariant-loop-pending
invariant-loop-pending l =
    change_at (at_of l.name) (list_of l.list) ≡ change_at (at_of l.name) (list_of (drop l.pending-index l.list))
