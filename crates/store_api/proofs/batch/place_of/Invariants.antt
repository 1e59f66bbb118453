use Rattle.std.proofs.Common.{◌≤◌, ◌-◌, length}
use Rattle.store_api.specs.Entries.{entries_of, place}
use Rattle.store_api.proofs.batch.place_of.Given as goal

abbrev pub invariant-loop-from : goal.invariant-loop-from
invariant-loop-from l = record {
  from : l.from ≤ place l.id.0 (entries_of l.entries);
  to : place l.id.0 (entries_of l.entries) ≤ l.to;
  within : l.to ≤ length l.entries;
}

abbrev pub decreases-loop-from : goal.decreases-loop-from
decreases-loop-from l = l.to - l.from
