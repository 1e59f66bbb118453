use Rattle.std.proofs.Common.{sym, ◌∙◌}
use Rattle.local_state.proofs.Fitting.{fit_after, fit_buried}
use Rattle.local_state.proofs.known.Known.bury.Goals as goal

pub invariant_of-self : goal.invariant_of-self
invariant_of-self c =
    fit_after _ _ c.args.id.now.0 _ c.change_life.ensures.lives (fit_buried _ c.args.id.now.0 c.in-Some.life (sym c.life_of.ensures ∙ c.in-Some.is) c.self.invariant) c.self.invariant

pub returns-in-Some-clause-fits : goal.returns-in-Some-clause-fits
returns-in-Some-clause-fits c =
    fit_after _ _ c.args.id.now.0 _ c.change_life.ensures.lives (fit_buried _ c.args.id.now.0 c.in-Some.life (sym c.life_of.ensures ∙ c.in-Some.is) c.self.invariant) c.self.invariant
