use Rattle.memory_stores.specs.store_api.Txs.{tx_meanings}
use Rattle.path_tests.proofs.tower.answer_each.Given as goal

abbrev pub invariant-loop-line : goal.invariant-loop-line
invariant-loop-line g l = (tx_meanings g.S.Blocks.meanings g.S.Blocks.holdings).intact l.blobs.tx
