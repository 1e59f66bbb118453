use Rattle.std.proofs.Common.{ap, subst, sym, ◌∙◌}
use Rattle.local_state.specs.Known.{KnownTable, Lives, FitLives}
use Rattle.local_state.proofs.Lookups.{lives_of-same}
use Rattle.local_state.proofs.known.Known.reserve.Goals as goal

pub returns-clause-lives : goal.returns-clause-lives
returns-clause-lives c =
    lives_of-same c.self.inside.lives.entries c.reserve.new.self.entries c.reserve.ensures.entries.2 ∙ ap (λ (t : KnownTable). t.lives) c.self.view_is

pub invariant_of-self-2 : goal.invariant_of-self-2
invariant_of-self-2 c =
    subst (λ (m : Lives). FitLives m) (sym (lives_of-same c.self.inside.lives.entries c.reserve.new.self.entries c.reserve.ensures.entries.2)) c.self.invariant
