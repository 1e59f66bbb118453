use Rattle.std.proofs.Common.{◌≡◌, take}
use Rattle.memory_host_folder.proofs.attributes.child_of.Given as goal

abbrev pub invariant-loop-part : goal.invariant-loop-part
invariant-loop-part l = l.child ≡ take l.part-index l.path
