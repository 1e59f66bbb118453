use Rattle.std.proofs.Common.{◌≡◌, fold, take}
use Rattle.memory_outside.specs.FileNames.{with_name}
use Rattle.memory_outside.proofs.file_names.names.Given as goal

abbrev pub invariant-loop-name : goal.invariant-loop-name
invariant-loop-name l = l.names.keys ≡ fold with_name l.initial.names.keys (take l.name-index l.strange)

abbrev pub invariant-loop-name-2 : goal.invariant-loop-name-2
invariant-loop-name-2 l = l.lines.items ≡ l.yielded
