use Rattle.memory_stores.proofs.Changing.{kept_nothing}
use Rattle.memory_stores.proofs.store.MapStore.new.Goals as goal

pub returns-clause-intact : goal.returns-clause-intact
returns-clause-intact c = kept_nothing c.args.payload c.new.result c.requires.at_least c.requires.at_most c.new.ensures
