use Rattle.memory_stores.specs.store_api.Txs.{tx_meanings}
use Rattle.bench_memory.proofs.trees.change_often.Given as goal

abbrev pub invariant-loop-call : goal.invariant-loop-call
invariant-loop-call g l = (tx_meanings g.S.Blocks.meanings g.S.Blocks.holdings).intact l.tx
