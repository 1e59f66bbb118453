use Rattle.block_cache.specs.store_api.Txs.{intact_in}
use Rattle.tower_tests.proofs.sessions.take_all.Given as goal

abbrev pub invariant-loop-step : goal.invariant-loop-step
invariant-loop-step g l = intact_in g.S.Blocks.meanings g.S.Blocks.holdings l.tx
