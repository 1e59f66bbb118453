use Rattle.std.proofs.Common.{sym, ◌∙◌}
use Rattle.store_api.proofs.Crowds.{ends_free, passed-taken, passed-smaller}
use Rattle.store_api.proofs.fresh.first_free.Goals as goal

pub fresh-id-requires : goal.fresh-id-requires
fresh-id-requires g c = c.requires.few

pub returns-then-not-has : goal.returns-then-not-has
returns-then-not-has g c =
    ends_free c.args.overlay.now (g.S.Blocks.holdings.used c.args.store.now) c.args.drawn.0 c.loop-id.id.0 c.fresh-id.result.0 c.loop-id.invariant c.fresh-id.ensures (sym c.has.ensures ∙ c.if-not-has.true)

pub loop-id-smaller : goal.loop-id-smaller
loop-id-smaller g c =
    passed-smaller c.args.overlay.now (g.S.Blocks.holdings.used c.args.store.now) c.args.drawn.0 c.loop-id.id.0 c.fresh-id.result.0 c.next-id.result.0 c.requires.small c.loop-id.invariant c.fresh-id.ensures (sym c.has.ensures ∙ c.if-not-has.false) c.next-id.ensures

pub loop-id-preserved : goal.loop-id-preserved
loop-id-preserved g c =
    passed-taken c.args.overlay.now (g.S.Blocks.holdings.used c.args.store.now) c.args.drawn.0 c.loop-id.id.0 c.fresh-id.result.0 c.next-id.result.0 c.loop-id.invariant c.fresh-id.ensures (sym c.has.ensures ∙ c.if-not-has.false) c.next-id.ensures
