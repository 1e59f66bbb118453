use Rattle.block_cache.specs.store_api.Txs.{intact_in}
use Rattle.store_tests.proofs.client_steps.play.Given as goal

abbrev pub invariant-loop-step : goal.invariant-loop-step
invariant-loop-step g l = intact_in g.S.Blocks.meanings g.S.Blocks.holdings l.tx
