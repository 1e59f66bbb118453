use Rattle.std.proofs.Common.{inl}
use Rattle.std.specs.Prelude.{Some}
use Rattle.store_api.specs.Ids.{stream_left}
use Rattle.store_api.proofs.Ids.{come_put}
use Rattle.store_api.proofs.Overlays.{fits-put_or_not}
use Rattle.store_api.proofs.tx.Tx.put.Goals as goal

pub returns-clause-intact : goal.returns-clause-intact
returns-clause-intact g c =
    let H = g.S.Blocks.holdings in
    let a = c.args.self.now in
    let id = c.args.id.now.0 in (
      c.requires.intact.0,
      record {
        fits = fits-put_or_not c.put.result H a.store a.overlay c.put.new.self id c.args.payload.items c.put.ensures.ok c.put.ensures.err c.requires.intact.1.fits c.requires.sized (inl c.requires.there);
        few = c.requires.intact.1.few;
        ids = come_put c.put.result a.seed (stream_left a.ids) (H.used a.store) a.overlay c.put.new.self (H.content a.store id) id (Some c.args.payload.items) c.put.ensures.ok c.put.ensures.err c.requires.there
            (λ there. g.met.S.Blocks.steady.content_used a.store id c.requires.intact.0 there) c.requires.intact.1.ids;
      },
    )
