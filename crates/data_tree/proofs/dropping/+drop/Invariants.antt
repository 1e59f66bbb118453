use Rattle.std.proofs.Common.{◌+◌, ◌*◌, ◌≡◌, true, drop}
use Rattle.std.specs.Prelude.{Ok, is_some}
use Rattle.std.specs.FinMap.{get}
use Rattle.store_api.specs.Content.{Id}
use Rattle.store_api.specs.store_outcome.Outcome.{Outcome}
use Rattle.data_nodes.specs.Layout.{ids_of}
use Rattle.data_tree.specs.Needs.{HasTrees, DropRest}
use Rattle.store_api.specs.Holdings.{Stays}
use Rattle.store_api.specs.Txs.{tx_holdings, tx_meanings}
use Rattle.data_tree.proofs.dropping.+drop.Given as goal

abbrev pub decreases-drop_below : goal.decreases-drop_below
decreases-drop_below g l = 3 * l.depth + 2

abbrev pub decreases-drop_in : goal.decreases-drop_in
decreases-drop_in g l = 3 * l.depth + 1

abbrev pub decreases-drop_children : goal.decreases-drop_children
decreases-drop_children g l = 3 * l.depth + 3

abbrev pub invariant-drop_children-loop-child : goal.invariant-drop_children-loop-child
invariant-drop_children-loop-child g l = record {
  outcome : Outcome (tx_meanings g.S.Blocks.meanings g.S.Blocks.holdings) {T = Unit {0}} (HasTrees (tx_holdings g.S.Blocks.holdings) l.initial.tx l.depth (ids_of l.children)) l.initial.tx l.tx (Ok tt)
      (λ n _. DropRest (tx_holdings g.S.Blocks.holdings) l.initial.tx l.tx l.depth (drop l.child-index (ids_of l.children)) n.ids);
  kept : (q : Id) → is_some ((tx_holdings g.S.Blocks.holdings).content l.tx q) ≡ true → get l.tx.overlay q ≡ get l.initial.tx.overlay q;
  below : Stays g.S.Blocks.holdings l.initial.tx.store l.tx.store;
}
