use Rattle.std.proofs.Common.{◌≡◌, ◌≤◌, drop}
use Rattle.store_api.specs.Entries.{entries_of}
use Rattle.integrity_store.specs.Raising.{lives_after_each, MayComeEach, count_new_each}
use Rattle.integrity_store.proofs.raising.raise_or_bury_all.Given as goal

abbrev pub invariant-loop-entry : goal.invariant-loop-entry
invariant-loop-entry l = record {
  may : MayComeEach l.known.lives (drop l.entry-index (entries_of l.entries));
  room : count_new_each l.known.lives (drop l.entry-index (entries_of l.entries)) ≤ l.known.spare;
  lives : lives_after_each l.known.lives (drop l.entry-index (entries_of l.entries)) ≡ lives_after_each l.initial.known.lives (entries_of l.entries);
}
