use Rattle.std.proofs.Common.{◌≡◌, take}
use Rattle.outside.specs.View.{list_of}
use Rattle.test_systems.proofs.stored.copy_files.Given as goal

abbrev pub invariant-loop-file : goal.invariant-loop-file
invariant-loop-file l = list_of l.files.items ≡ list_of (take l.file-index l.stored)
