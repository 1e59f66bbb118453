use Rattle.local_state.proofs.Lookups.{lives_of-insert}
use Rattle.local_state.proofs.lives.add_life.Goals as goal

pub returns-clause-lives : goal.returns-clause-lives
returns-clause-lives c = lives_of-insert c.args.id c.args.life c.args.lives.now.entries c.insert.new.self.entries c.in-Ok.ensures.updates.0
