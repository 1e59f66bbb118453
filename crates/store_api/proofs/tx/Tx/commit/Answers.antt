use Rattle.std.proofs.Common.{sym, ◌∙◌, subst}
use Rattle.store_api.specs.Holdings.{FitsStore, IsFew}
use Rattle.store_api.specs.Ids.{chacha20, stream_left, ComeOfSeed}
use Rattle.store_api.proofs.Ids.{come_nothing, come_used, later_of_ids}
use Rattle.store_api.proofs.Overlays.{fits_nothing, fits-stays}
use Rattle.store_api.proofs.tx.Tx.commit.Goals as goal

pub returns-in-Ok-clause-intact : goal.returns-in-Ok-clause-intact
returns-in-Ok-clause-intact g c =
    let H = g.S.Blocks.holdings in
    let a = c.args.self.now in
    let ids = c.requires.1.ids in (
      c.apply.ensures.intact,
      record {
        fits = subst (FitsStore H c.apply.new.self) (sym c.take-batch.ensures.left) (fits_nothing H c.apply.new.self);
        few = c.in-Ok.ensures.ok.changed.few c.requires.1.few;
        ids = come_nothing a.seed (stream_left a.ids) (H.used c.apply.new.self) c.take-batch.new.self (later_of_ids (H.used a.store) ids.drawn (chacha20 a.seed) (stream_left a.ids) ids.come) c.take-batch.ensures.left;
      },
    )

pub returns-in-Err-clause-intact : goal.returns-in-Err-clause-intact
returns-in-Err-clause-intact g c =
    let H = g.S.Blocks.holdings in
    let a = c.args.self.now in
    let stays = g.met.S.BlocksMut.settled a.store c.apply.new.self c.in-Err.ensures.err.loaded in
    let same = c.give_back.ensures ∙ c.take-batch.ensures.batch in (
      c.apply.ensures.intact,
      record {
        fits = subst (FitsStore H c.apply.new.self) (sym same) (fits-stays H a.store c.apply.new.self a.overlay stays c.requires.1.fits);
        few = subst IsFew (sym stays.used) c.requires.1.few;
        ids = subst (ComeOfSeed a.seed (stream_left a.ids) (H.used c.apply.new.self)) (sym same) (come_used a.seed (stream_left a.ids) (H.used a.store) (H.used c.apply.new.self) a.overlay stays.used c.requires.1.ids);
      },
    )
