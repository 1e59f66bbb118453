use Rattle.std.proofs.Common.{◌≡◌, ◌+◌, ◌*◌, drop}
use Rattle.std.specs.Prelude.{Ok}
use Rattle.data_tree.specs.store_outcome.Outcome.{Outcome}
use Rattle.data_tree.specs.store_api.Holdings.{Stays}
use Rattle.data_tree.specs.data_nodes.Layout.{ids_of}
use Rattle.data_tree.specs.Needs.{HasTrees}
use Rattle.data_reads.specs.Reading.{ReadRest}
use Rattle.data_reads.specs.Reading.{between}
use Rattle.data_tree.specs.store_api.Txs.{tx_holdings, tx_meanings}
use Rattle.data_reads.proofs.reading.+read.Given as goal

abbrev pub decreases-read_below : goal.decreases-read_below
decreases-read_below g l = 3 * l.level.depth + 2

abbrev pub decreases-read_in : goal.decreases-read_in
decreases-read_in g l = 3 * l.level.depth + 1

abbrev pub decreases-read_children : goal.decreases-read_children
decreases-read_children g l = 3 * l.level.depth + 3

abbrev pub invariant-read_children-loop-child : goal.invariant-read_children-loop-child
invariant-read_children-loop-child g l = record {
  outcome : Outcome (tx_meanings g.S.Blocks.meanings g.S.Blocks.holdings) {T = Unit {0}} (HasTrees (tx_holdings g.S.Blocks.holdings) l.initial.tx l.level.depth (ids_of l.children)) l.initial.tx l.tx (Ok tt)
      (λ n _. ReadRest (tx_holdings g.S.Blocks.holdings) l.initial.tx l.level.depth (drop l.child-index (ids_of l.children)) l.initial.out.items l.out.items l.rest.from l.rest.to
      (between l.initial.rest.from l.initial.rest.to n.bytes));
  stays : Stays (tx_holdings g.S.Blocks.holdings) l.initial.tx l.tx;
  below : Stays g.S.Blocks.holdings l.initial.tx.store l.tx.store;
  overlay : l.tx.overlay ≡ l.initial.tx.overlay;
}
