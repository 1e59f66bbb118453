use Rattle.std.proofs.Common.{◌≡◌, ◌-◌, drop, length}
use Rattle.outside.specs.View.{list_of}
use Rattle.memory_outside.specs.FileNames.{file_names}
use Rattle.memory_outside.proofs.file_names.own_names.Given as goal

abbrev pub invariant-loop-i : goal.invariant-loop-i
invariant-loop-i l = l.names.keys ≡ file_names (list_of (drop (length l.files - l.i) l.files))
