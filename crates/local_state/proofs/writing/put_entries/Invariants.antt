use Rattle.std.proofs.Common.{◌≡◌, ◌++◌, length, map, take}
use Rattle.std.specs.Int.{w64, to_le_bytes}
use Rattle.std.specs.List.{flat_map}
use Rattle.local_state.specs.Known.{plain_entry}
use Rattle.local_state.specs.Record.{life_bytes}
use Rattle.local_state.proofs.writing.put_entries.Given as goal

abbrev pub invariant-lives : goal.invariant-lives
invariant-lives l = l.out.items ≡ (l.fn.out.items ++ to_le_bytes w64 (length l.entries)) ++ flat_map life_bytes (map plain_entry (take l.entry-index l.entries))
