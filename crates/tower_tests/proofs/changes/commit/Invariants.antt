use Rattle.block_cache.specs.store_api.Txs.{intact_in}
use Rattle.tower_tests.proofs.changes.commit.Given as goal

abbrev pub invariant-loop-word : goal.invariant-loop-word
invariant-loop-word g l = intact_in g.S.Blocks.meanings g.S.Blocks.holdings l.tx
