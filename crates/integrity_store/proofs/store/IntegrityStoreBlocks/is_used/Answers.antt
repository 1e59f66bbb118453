use Rattle.std.proofs.Common.{◌∙◌}
use Rattle.std.specs.FinMap.{contains_key-keys}
use Rattle.integrity_store.proofs.store.IntegrityStoreBlocks.is_used.Goals as goal

pub returns : goal.returns
returns g c = c.is_used.ensures ∙ contains_key-keys c.args.self.now.state.known.lives c.args.id.now.0
