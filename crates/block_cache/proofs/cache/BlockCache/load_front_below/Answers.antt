use Rattle.block_cache.proofs.Caching.{outcome-asked}
use Rattle.block_cache.proofs.cache.BlockCache.load_front_below.Goals as goal

pub returns-clause-outcome : goal.returns-clause-outcome
returns-clause-outcome g c =
    let loaded = c.load_front.ensures in
    outcome-asked g.S.Blocks.meanings g.S.Blocks.holdings g.met.S.Blocks.steady c.args.self.now.store c.load_front.new.self c.args.self.now.cached c.requires.1 loaded.stays loaded.outcome
