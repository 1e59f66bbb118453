use Rattle.std.proofs.Common.{◌≡◌, drop}
use Rattle.store_api.specs.Entries.{entries_of}
use Rattle.memory_stores.specs.Setting.{put_all}
use Rattle.memory_stores.proofs.rows.set_entries.Given as goal

abbrev pub invariant-loop-entry : goal.invariant-loop-entry
invariant-loop-entry l = put_all (drop l.entry-index (entries_of l.entries)) l.rows ≡ put_all (entries_of l.entries) l.initial.rows
