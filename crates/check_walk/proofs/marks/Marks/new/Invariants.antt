use Rattle.std.proofs.Common.{◌≡◌, take, map}
use Rattle.check_walk.specs.Marks.{mark_entry, unmarked}
use Rattle.check_walk.proofs.marks.Marks.new.Given as goal

abbrev pub invariant-loop-id : goal.invariant-loop-id
invariant-loop-id l = map mark_entry l.marks.items ≡ map unmarked (take l.id-index l.live)
