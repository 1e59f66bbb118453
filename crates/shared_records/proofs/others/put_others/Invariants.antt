use Rattle.std.proofs.Common.{◌≡◌, ◌++◌, length, map, take}
use Rattle.std.specs.Int.{w64, to_le_bytes}
use Rattle.std.specs.List.{flat_map}
use Rattle.local_state.specs.Versions.{version_of}
use Rattle.shared_records.specs.Shared.{version_bytes}
use Rattle.shared_records.proofs.others.put_others.Given as goal

abbrev pub invariant-others : goal.invariant-others
invariant-others l = l.out.items ≡ (l.fn.out.items ++ to_le_bytes w64 (length l.others)) ++ flat_map version_bytes (map version_of (take l.triple-index l.others))
