use Rattle.std.proofs.Common.{sym, ◌∙◌, subst}
use Rattle.std.specs.Prelude.{None}
use Rattle.store_api.specs.Holdings.{FitsStore}
use Rattle.store_api.specs.Ids.{stream_left}
use Rattle.store_api.proofs.Ids.{come_put, come_forget}
use Rattle.store_api.proofs.Overlays.{fits-remove_or_not, fits-forget}
use Rattle.store_api.proofs.tx.Tx.remove.Goals as goal

pub returns-then-is_used-clause-intact : goal.returns-then-is_used-clause-intact
returns-then-is_used-clause-intact g c =
    let H = g.S.Blocks.holdings in
    let a = c.args.self.now in
    let id = c.args.id.now.0 in (
      c.requires.intact.0,
      record {
        fits = fits-remove_or_not c.remove.result H a.store a.overlay c.remove.new.self id c.remove.ensures.ok c.remove.ensures.err c.requires.intact.1.fits (sym c.is_used.ensures ∙ c.if-is_used.true) c.requires.there;
        few = c.requires.intact.1.few;
        ids = come_put c.remove.result a.seed (stream_left a.ids) (H.used a.store) a.overlay c.remove.new.self (H.content a.store id) id None c.remove.ensures.ok c.remove.ensures.err c.requires.there
            (λ there. g.met.S.Blocks.steady.content_used a.store id c.requires.intact.0 there) c.requires.intact.1.ids;
      },
    )

pub returns-clause-intact : goal.returns-clause-intact
returns-clause-intact g c =
    let H = g.S.Blocks.holdings in
    let a = c.args.self.now in
    let id = c.args.id.now.0 in (
      c.requires.intact.0,
      record {
        fits = subst (FitsStore H a.store) (sym c.forget.ensures) (fits-forget H a.store a.overlay id c.requires.intact.1.fits);
        few = c.requires.intact.1.few;
        ids = come_forget a.seed (stream_left a.ids) (H.used a.store) a.overlay c.forget.new.self id c.forget.ensures c.requires.intact.1.ids;
      },
    )
