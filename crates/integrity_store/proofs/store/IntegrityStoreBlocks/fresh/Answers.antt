use Rattle.block_versions.proofs.Freshness.{first_free}
use Rattle.integrity_store.proofs.store.IntegrityStoreBlocks.fresh.Goals as goal

pub returns : goal.returns
returns g c = first_free c.args.self.now.state.known.lives c.args.drawn.0 c.fresh.result.0 c.fresh.ensures
