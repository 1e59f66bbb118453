-- the same blocks are told
use Rattle.std.proofs.Common.{◌≡◌, map}
use Rattle.check_refused.specs.Surveys.{ungiven_of}
use Rattle.check_refused.proofs.exploring.name_below.Given as goal

abbrev pub invariant-loop-child : goal.invariant-loop-child
invariant-loop-child l = map ungiven_of l.ungiven.items ≡ map ungiven_of l.initial.ungiven.items
