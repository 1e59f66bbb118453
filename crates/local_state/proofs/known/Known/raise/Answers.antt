use Rattle.std.proofs.Common.{◌≡◌, length, rules, sym, ◌∙◌}
use Rattle.local_state.proofs.Fitting.{fit_after, fit_first, fit_raised}
use Rattle.local_state.proofs.known.Known.raise.Goals as goal

pub invariant_of-self : goal.invariant_of-self
invariant_of-self c =
    let long : length c.args.id.now.0 ≡ 16 = search rules in
    fit_after _ _ c.args.id.now.0 _ c.add_life.ensures.lives (fit_first c.args.id.now.0 long c.requires.not_zero) c.self.invariant

pub returns-in-None-clause-fits : goal.returns-in-None-clause-fits
returns-in-None-clause-fits c =
    let long : length c.args.id.now.0 ≡ 16 = search rules in
    fit_after _ _ c.args.id.now.0 _ c.add_life.ensures.lives (fit_first c.args.id.now.0 long c.requires.not_zero) c.self.invariant

pub invariant_of-self-in-Some-2 : goal.invariant_of-self-in-Some-2
invariant_of-self-in-Some-2 c =
    fit_after _ _ c.args.id.now.0 _ c.change_life.ensures.lives (fit_raised _ c.args.id.now.0 c.in-Some.life (sym c.life_of.ensures ∙ c.in-Some.is) c.if-life.false c.self.invariant) c.self.invariant

pub returns-in-Some-2-clause-fits : goal.returns-in-Some-2-clause-fits
returns-in-Some-2-clause-fits c =
    fit_after _ _ c.args.id.now.0 _ c.change_life.ensures.lives (fit_raised _ c.args.id.now.0 c.in-Some.life (sym c.life_of.ensures ∙ c.in-Some.is) c.if-life.false c.self.invariant) c.self.invariant
