use Rattle.std.proofs.Common.{◌≡◌, map, drop}
use Rattle.check_walk.specs.Marks.{mark_entry, first_unowned}
use Rattle.check_walk.proofs.marks.find_unowned.Given as goal

abbrev pub invariant-loop-mark : goal.invariant-loop-mark
invariant-loop-mark l = first_unowned (map mark_entry (drop l.mark-index l.marks)) ≡ first_unowned (map mark_entry l.marks)
