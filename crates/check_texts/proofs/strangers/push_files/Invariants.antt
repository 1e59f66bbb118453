-- the names of the files so far stand behind the others
use Rattle.std.proofs.Common.{◌≡◌, ◌++◌, map, take}
use Rattle.check_texts.specs.Strangers.{block_file}
use Rattle.check_texts.proofs.strangers.push_files.Given as goal

abbrev pub invariant-loop-i : goal.invariant-loop-i
invariant-loop-i l = l.files.items ≡ l.initial.files.items ++ map block_file (take l.i l.owners)
