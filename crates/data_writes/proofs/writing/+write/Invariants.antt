use Rattle.std.proofs.Common.{◌≡◌, ◌≤◌, ◌+◌, ◌*◌, drop, take}
use Rattle.std.specs.Prelude.{Ok, length, true, is_some}
use Rattle.data_tree.specs.store_outcome.Outcome.{Outcome}
use Rattle.data_tree.specs.data_nodes.Layout.{ids_of, room}
use Rattle.data_tree.specs.store_api.Content.{Id}
use Rattle.data_tree.specs.store_api.Holdings.{Stays}
use Rattle.data_writes.specs.Leaves.{OnlyAmong}
use Rattle.data_writes.specs.Writing.{MayWriteTrees, WriteRest, CostRest, written_at}
use Rattle.std.specs.FinMap as fin
use Rattle.data_tree.specs.store_api.Txs.{tx_holdings, tx_meanings}
use Rattle.data_writes.proofs.writing.+write.Given as goal

abbrev pub decreases-write_below : goal.decreases-write_below
decreases-write_below g l = 3 * l.level.depth + 2

abbrev pub decreases-write_in : goal.decreases-write_in
decreases-write_in g l = 3 * l.level.depth + 1

abbrev pub decreases-write_children : goal.decreases-write_children
decreases-write_children g l = 3 * l.level.depth + 3

abbrev pub invariant-write_children-loop-child : goal.invariant-write_children-loop-child
invariant-write_children-loop-child g l = record {
  outcome : Outcome (tx_meanings g.S.Blocks.meanings g.S.Blocks.holdings) {T = Unit {0}} (MayWriteTrees (tx_holdings g.S.Blocks.holdings) l.initial.tx l.level.depth (ids_of l.children) l.initial.place (length l.initial.rest)) l.initial.tx l.tx (Ok tt)
      (λ n _. WriteRest (tx_holdings g.S.Blocks.holdings) l.initial.tx l.tx l.level.depth (take l.child-index (ids_of l.children)) (drop l.child-index (ids_of l.children)) l.place l.rest (written_at l.initial.place l.initial.rest n.trees.bytes) n.trees.ids);
  cost : CostRest (room ((tx_holdings g.S.Blocks.holdings).payload l.initial.tx)) (fin.len l.initial.tx.overlay) (fin.len l.tx.overlay) l.initial.place (length l.initial.rest) l.child-index l.level.room l.place (length l.rest);
  only : (n : MayWriteTrees (tx_holdings g.S.Blocks.holdings) l.initial.tx l.level.depth (ids_of l.children) l.initial.place (length l.initial.rest)) → (tx_meanings g.S.Blocks.meanings g.S.Blocks.holdings).sound l.initial.tx
      → (tx_meanings g.S.Blocks.meanings g.S.Blocks.holdings).forgeries l.tx ≤ (tx_meanings g.S.Blocks.meanings g.S.Blocks.holdings).forgeries l.initial.tx
      → OnlyAmong ((tx_holdings g.S.Blocks.holdings).payload l.initial.tx) ((tx_holdings g.S.Blocks.holdings).content l.initial.tx) l.level.depth (ids_of l.children) l.initial.place (length l.initial.rest) l.initial.tx.overlay l.tx.overlay;
  below : Stays g.S.Blocks.holdings l.initial.tx.store l.tx.store;
  there : (q : Id) → is_some ((tx_holdings g.S.Blocks.holdings).content l.initial.tx q) ≡ true → is_some ((tx_holdings g.S.Blocks.holdings).content l.tx q) ≡ true;
}
