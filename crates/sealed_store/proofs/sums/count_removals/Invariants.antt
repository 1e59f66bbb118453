use Rattle.std.proofs.Common.{◌≡◌, ◌≤◌, take}
use Rattle.outside.specs.View.{list_of}
use Rattle.sealed_store.specs.Sums.{removals_in}
use Rattle.sealed_store.proofs.sums.count_removals.Given as goal

abbrev pub invariant-loop-pending : goal.invariant-loop-pending
invariant-loop-pending l = record {
  count : l.count ≡ removals_in (take l.pending-index (list_of l.list));
  few : l.count ≤ l.pending-index;
}
