use Rattle.std.proofs.Common.{sym, ◌∙◌}
use Rattle.memory_stores.specs.Rows.{has_id-keys}
use Rattle.memory_stores.proofs.store.MapStoreBlocks.is_used.Goals as goal

pub returns : goal.returns
returns c = c.has.ensures ∙ sym (has_id-keys c.args.self.now.rows c.args.id.now.0)
