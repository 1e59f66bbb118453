use Rattle.std.proofs.Common.{sym, ap, subst}
use Rattle.store_api.specs.Holdings.{FitsStore}
use Rattle.store_api.specs.Ids.{stream_left}
use Rattle.store_api.proofs.Draws.{later_is}
use Rattle.store_api.proofs.Ids.{come_nothing}
use Rattle.store_api.proofs.Overlays.{fits_nothing}
use Rattle.store_api.proofs.tx.Tx.new.Goals as goal

pub returns-clause-intact : goal.returns-clause-intact
returns-clause-intact g c = (
  c.requires.intact,
  record {
    fits = subst (FitsStore g.S.Blocks.holdings c.args.store) (sym c.new.ensures) (fits_nothing g.S.Blocks.holdings c.args.store);
    few = c.requires.few;
    ids = come_nothing c.args.seed (stream_left c.from_seed.result) (g.S.Blocks.holdings.used c.args.store) c.new.result (later_is _ _ (ap stream_left c.from_seed.ensures)) c.new.ensures;
  },
)
