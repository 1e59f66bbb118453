use Rattle.block_cache.specs.store_api.Txs.{intact_in}
use Rattle.store_tests.proofs.map_stores.play.Given as goal

abbrev pub invariant-loop-line : goal.invariant-loop-line
invariant-loop-line g l = intact_in g.S.Blocks.meanings g.S.Blocks.holdings l.tx
