use Rattle.std.proofs.Common.{◌≡◌, take}
use Rattle.memory_stores.specs.Rows.{living_in}
use Rattle.memory_stores.proofs.rows.living.Given as goal

abbrev pub invariant-loop-entry : goal.invariant-loop-entry
invariant-loop-entry l = l.ids.items ≡ living_in (take l.entry-index l.entries)
