use Rattle.std.proofs.Common.{arith, inr}
use Rattle.std.specs.Prelude.{Some}
use Rattle.store_api.specs.Ids.{stream_left}
use Rattle.store_api.proofs.Crowds.{length-both}
use Rattle.store_api.proofs.Ids.{come_add}
use Rattle.store_api.proofs.Overlays.{fits-put_or_not}
use Rattle.store_api.proofs.tx.Tx.add.Goals as goal

pub first_free-id-requires-clause-small : goal.first_free-id-requires-clause-small
first_free-id-requires-clause-small g c =
    omega (arith, length-both c.args.self.now.overlay (g.S.Blocks.holdings.used c.args.self.now.store), c.len-count.ensures, c.len-count.type_inv, c.requires.intact.1.few)

pub first_free-id-requires-clause-few : goal.first_free-id-requires-clause-few
first_free-id-requires-clause-few g c = c.requires.intact.1.few

pub returns-in-Ok-clause-intact : goal.returns-in-Ok-clause-intact
returns-in-Ok-clause-intact g c =
    let H = g.S.Blocks.holdings in
    let a = c.args.self.now in
    let id = c.first_free-id.result.0 in (
      c.requires.intact.0,
      record {
        fits = fits-put_or_not c.put.result H a.store a.overlay c.put.new.self id c.args.payload.items c.put.ensures.ok c.put.ensures.err c.requires.intact.1.fits c.requires.sized (inr c.first_free-id.ensures.free);
        few = c.requires.intact.1.few;
        ids = come_add c.put.result a.seed (stream_left a.ids) (stream_left c.fill_bytes.new.self) (H.used a.store) a.overlay c.put.new.self c.fill_bytes.new.dst id (Some c.args.payload.items) c.requires.intact.1.ids
            c.fill_bytes.ensures c.first_free-id.ensures c.put.ensures.ok c.put.ensures.err;
      },
    )

pub returns-in-Err-clause-intact : goal.returns-in-Err-clause-intact
returns-in-Err-clause-intact g c =
    let H = g.S.Blocks.holdings in
    let a = c.args.self.now in
    let id = c.first_free-id.result.0 in (
      c.requires.intact.0,
      record {
        fits = fits-put_or_not c.put.result H a.store a.overlay c.put.new.self id c.args.payload.items c.put.ensures.ok c.put.ensures.err c.requires.intact.1.fits c.requires.sized (inr c.first_free-id.ensures.free);
        few = c.requires.intact.1.few;
        ids = come_add c.put.result a.seed (stream_left a.ids) (stream_left c.fill_bytes.new.self) (H.used a.store) a.overlay c.put.new.self c.fill_bytes.new.dst id (Some c.args.payload.items) c.requires.intact.1.ids
            c.fill_bytes.ensures c.first_free-id.ensures c.put.ensures.ok c.put.ensures.err;
      },
    )
