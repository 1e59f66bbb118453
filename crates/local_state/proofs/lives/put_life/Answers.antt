use Rattle.local_state.proofs.Lookups.{lives_of-insert}
use Rattle.local_state.proofs.lives.put_life.Goals as goal

pub returns-clause-ok : goal.returns-clause-ok
returns-clause-ok c = lives_of-insert c.args.id.now c.args.life c.args.lives.now.entries c.insert.new.self.entries c.in_ok-insert.ensures.updates.0
