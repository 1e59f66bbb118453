use Rattle.std.proofs.Common.{◌≡◌, ◌+◌, ◌≤◌, drop}
use Rattle.store_api.specs.Entries.{entries_of}
use Rattle.integrity_store.specs.Raising.{count_new_in}
use Rattle.integrity_store.proofs.raising.count_new.Given as goal

abbrev pub invariant-loop-entry : goal.invariant-loop-entry
invariant-loop-entry l = record {
  few : l.count ≤ l.entry-index;
  counted : l.count + count_new_in l.known.lives (drop l.entry-index (entries_of l.entries)) ≡ count_new_in l.known.lives (entries_of l.entries);
}
