use Rattle.local_state.proofs.Ahead.{Passed}
use Rattle.local_state.proofs.lives.first_free.Given as goal

abbrev pub invariant-candidates : goal.invariant-candidates
invariant-candidates l = Passed l.fn.drawn l.id l.counter l.lives.entries
