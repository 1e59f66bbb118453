use Rattle.std.proofs.Common.{◌<◌}
use Rattle.memory_stores.specs.store_api.Txs.{tx_meanings}
use Rattle.blob_tests.proofs.trees.+shape.Given as goal

abbrev pub decreases-shape_below : goal.decreases-shape_below
decreases-shape_below g l = l.depth

abbrev pub invariant-loop-child : goal.invariant-loop-child
invariant-loop-child g l = record { intact : (tx_meanings g.S.Blocks.meanings g.S.Blocks.holdings).intact l.tx; deep : 0 < l.depth }
