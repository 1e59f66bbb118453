use Rattle.std.proofs.Common.{sym, ap, ◌∙◌}
use Rattle.local_state.specs.Known.{KnownTable}
use Rattle.std.specs.FinMap as fin
use Rattle.local_state.proofs.Lookups.{len-lives_of}
use Rattle.local_state.proofs.known.Known.len.Goals as goal

pub returns-clause-len : goal.returns-clause-len
returns-clause-len c = c.len.ensures.len ∙ sym (len-lives_of c.self.inside.lives.entries c.len.ensures.unique) ∙ ap (λ (t : KnownTable). fin.len t.lives) c.self.view_is
