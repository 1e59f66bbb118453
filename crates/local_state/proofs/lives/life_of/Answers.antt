use Rattle.std.proofs.Common.{sym, ◌∙◌}
use Rattle.local_state.proofs.Lookups.{get-lives_of}
use Rattle.local_state.proofs.lives.life_of.Goals as goal

pub returns : goal.returns
returns c = c.copied.ensures ∙ c.get.ensures.value ∙ sym (get-lives_of c.args.id.now c.args.lives.now.entries)
