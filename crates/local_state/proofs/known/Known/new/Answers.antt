use Rattle.local_state.proofs.Fitting.{fit_none}
use Rattle.local_state.proofs.known.Known.new.Goals as goal

pub invariant_of-result : goal.invariant_of-result
invariant_of-result c = fit_none c.new.result.entries c.new.ensures.empty
