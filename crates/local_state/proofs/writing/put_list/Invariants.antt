use Rattle.std.proofs.Common.{◌≡◌, ◌++◌, length, take}
use Rattle.std.specs.Int.{w64, to_le_bytes}
use Rattle.std.specs.List.{flat_map}
use Rattle.outside.specs.View.{list_of}
use Rattle.local_state.specs.Record.{entry_bytes}
use Rattle.local_state.proofs.writing.put_list.Given as goal

abbrev pub invariant-entries : goal.invariant-entries
invariant-entries l = l.out.items ≡ (l.fn.out.items ++ to_le_bytes w64 (length l.list)) ++ flat_map entry_bytes (list_of (take l.entry-index l.list))
