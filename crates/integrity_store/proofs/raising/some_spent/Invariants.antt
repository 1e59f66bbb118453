use Rattle.std.proofs.Common.{◌≡◌, drop}
use Rattle.store_api.specs.Entries.{entries_of}
use Rattle.integrity_store.specs.Raising.{some_spent_in}
use Rattle.integrity_store.proofs.raising.some_spent.Given as goal

abbrev pub invariant-loop-entry : goal.invariant-loop-entry
invariant-loop-entry l = some_spent_in l.known.lives (entries_of l.entries) ≡ some_spent_in l.known.lives (drop l.entry-index (entries_of l.entries))
