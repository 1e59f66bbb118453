use Rattle.memory_stores.proofs.Living.{if_rising, if_all}
use Rattle.memory_stores.proofs.store.MapStore.live_ids.Goals as goal

pub returns-clause-order : goal.returns-clause-order
returns-clause-order c = if_rising c.args.self.now.rows c.entries.result.now c.living.result c.entries.ensures c.living.ensures

pub returns-clause-all : goal.returns-clause-all
returns-clause-all c = if_all c.args.self.now.rows c.entries.result.now c.living.result c.entries.ensures c.living.ensures
