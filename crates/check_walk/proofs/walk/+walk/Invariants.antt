use Rattle.std.proofs.Common.{◌+◌, ◌*◌, take}
use Rattle.std.specs.Prelude.{Ok}
use Rattle.data_tree.specs.store_outcome.Outcome.{Outcome}
use Rattle.data_tree.specs.store_api.Holdings.{Stays}
use Rattle.data_tree.specs.data_nodes.Layout.{ids_of}
use Rattle.data_tree.specs.Trees.{IsTree, Forest, span}
use Rattle.check_walk.specs.Given.{IsLoad}
use Rattle.check_walk.specs.Walks.{Walked, FillsAll}
use Rattle.check_walk.proofs.walk.+walk.Given as goal

abbrev pub decreases-walk_below : goal.decreases-walk_below
decreases-walk_below g l = 3 * l.need.level.depth + 2

abbrev pub decreases-walk_in : goal.decreases-walk_in
decreases-walk_in g l = 3 * l.need.level.depth + 1

abbrev pub decreases-walk_children : goal.decreases-walk_children
decreases-walk_children g l = 3 * l.need.level.depth + 3

abbrev pub invariant-walk_children-loop-child : goal.invariant-walk_children-loop-child
invariant-walk_children-loop-child g l = record {
  outcome : Outcome g.B.Blocks.meanings {T = Unit {0}} Unit l.initial.store l.store (Ok tt) (λ n y. Unit {0});
  stays : Stays g.B.Blocks.holdings l.initial.store l.store;
  walked : Walked (IsLoad g.B.Blocks.meanings g.B.Blocks.holdings g.B.Blocks.loads) l.need.owner l.initial.store l.store l.initial.marks l.marks l.initial.front l.front
      (λ C w ids. Forest (IsTree (g.B.Blocks.holdings.payload l.initial.store) C l.need.level.depth) (span (g.B.Blocks.holdings.payload l.initial.store) l.need.level.depth) (take l.child-index (ids_of l.children)) w ids)
      (FillsAll l.len l.child-index l.need.level.room);
}
