use Rattle.memory_stores.specs.store_api.Txs.{tx_meanings}
use Rattle.bench_memory.proofs.trees.read_all.Given as goal

abbrev pub invariant-loop-piece : goal.invariant-loop-piece
invariant-loop-piece g l = (tx_meanings g.S.Blocks.meanings g.S.Blocks.holdings).intact l.tx
