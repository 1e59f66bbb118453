use Rattle.std.proofs.Common.{sym, ap, subst}
use Rattle.store_api.specs.Holdings.{FitsStore}
use Rattle.store_api.specs.Ids.{stream_left}
use Rattle.store_api.proofs.Draws.{later_is}
use Rattle.store_api.proofs.Ids.{come_nothing}
use Rattle.store_api.proofs.Overlays.{fits_nothing}
use Rattle.store_api.proofs.tx.Tx.begin.Goals as goal

pub returns-clause-intact : goal.returns-clause-intact
returns-clause-intact g c = (
  c.requires.intact,
  record {
    fits = subst (FitsStore g.S.Blocks.holdings c.args.self.now.store) (sym c.clear.ensures) (fits_nothing g.S.Blocks.holdings c.args.self.now.store);
    few = c.requires.few;
    ids = come_nothing c.args.seed (stream_left c.from_seed-self.result) (g.S.Blocks.holdings.used c.args.self.now.store) c.clear.new.self (later_is _ _ (ap stream_left c.from_seed-self.ensures)) c.clear.ensures;
  },
)

pub returns-clause-begun : goal.returns-clause-begun
returns-clause-begun g c = λ i. record c.args.self.now { overlay = c.clear.ensures i; seed = c.args.seed; ids = c.from_seed-self.ensures i }
