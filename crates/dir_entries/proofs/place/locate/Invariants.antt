use Rattle.std.proofs.Common.{length}
use Rattle.dir_entries.proofs.Edits.{Passes}
use Rattle.dir_entries.proofs.place.locate.Given as goal

abbrev pub invariant-loop-rest : goal.invariant-loop-rest
invariant-loop-rest l = Passes l.name l.body l.rest

abbrev pub decreases-loop-rest : goal.decreases-loop-rest
decreases-loop-rest l = length l.rest
