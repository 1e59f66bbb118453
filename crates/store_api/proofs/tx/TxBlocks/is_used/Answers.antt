use Rattle.std.proofs.Common.{sym, ◌∙◌}
use Rattle.store_api.specs.Overlay.{has_id-over}
use Rattle.store_api.proofs.Overlays.{or_true, or_false}
use Rattle.store_api.proofs.tx.TxBlocks.is_used.Goals as goal

pub returns-then-has : goal.returns-then-has
returns-then-has g c =
    or_true _ _ _ c.if-has.true c.has.ensures ∙ sym (has_id-over c.args.self.now.overlay (g.S.Blocks.holdings.used c.args.self.now.store) c.args.id.now.0)

pub returns-else-has : goal.returns-else-has
returns-else-has g c =
    c.is_used.ensures ∙ (or_false _ _ _ c.if-has.false c.has.ensures ∙ sym (has_id-over c.args.self.now.overlay (g.S.Blocks.holdings.used c.args.self.now.store) c.args.id.now.0))
