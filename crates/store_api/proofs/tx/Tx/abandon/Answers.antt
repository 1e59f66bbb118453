use Rattle.std.proofs.Common.{sym, subst}
use Rattle.store_api.specs.Holdings.{FitsStore}
use Rattle.store_api.specs.Ids.{chacha20, stream_left}
use Rattle.store_api.proofs.Ids.{come_nothing, later_of_ids}
use Rattle.store_api.proofs.Overlays.{fits_nothing}
use Rattle.store_api.proofs.tx.Tx.abandon.Goals as goal

pub returns-clause-intact : goal.returns-clause-intact
returns-clause-intact g c =
    let H = g.S.Blocks.holdings in
    let a = c.args.self.now in
    let ids = c.requires.1.ids in (
      c.requires.0,
      record {
        fits = subst (FitsStore H a.store) (sym c.clear.ensures) (fits_nothing H a.store);
        few = c.requires.1.few;
        ids = come_nothing a.seed (stream_left a.ids) (H.used a.store) c.clear.new.self (later_of_ids (H.used a.store) ids.drawn (chacha20 a.seed) (stream_left a.ids) ids.come) c.clear.ensures;
      },
    )
