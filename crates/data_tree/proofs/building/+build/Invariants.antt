use Rattle.std.proofs.Common.{◌≡◌, ◌⊎◌, ◌+◌, ◌*◌, ◌<◌, length}
use Rattle.data_nodes.specs.Layout.{ids_of}
use Rattle.data_tree.specs.Leaving.{AddsBlocks}
use Rattle.data_tree.specs.Needs.{BuildRest}
use Rattle.store_api.specs.Txs.{tx_holdings, tx_meanings}
use Rattle.data_tree.proofs.building.+build.Given as goal

abbrev pub decreases-build : goal.decreases-build
decreases-build g l = 3 * l.level.depth + 1

abbrev pub decreases-new_below : goal.decreases-new_below
decreases-new_below g l = 3 * l.level.depth + 2

abbrev pub decreases-build_children : goal.decreases-build_children
decreases-build_children g l = 3 * l.level.depth + 3

abbrev pub invariant-build_children-loop-rest : goal.invariant-build_children-loop-rest
invariant-build_children-loop-rest g l = record {
  intact : (tx_meanings g.S.Blocks.meanings g.S.Blocks.holdings).intact l.tx;
  adds : AddsBlocks g.S.Blocks.holdings l.initial.tx l.tx;
  built : BuildRest (tx_holdings g.S.Blocks.holdings) l.initial.tx l.tx l.level.depth (ids_of l.children.items) l.rest l.initial.rest;
  whole : 0 < length l.rest → length l.children.items * l.level.room + length l.rest ≡ length l.initial.rest;
  under : length l.children.items * l.level.room < length l.initial.rest + l.level.room;
  begun : (0 < length l.children.items) ⊎ (length l.rest ≡ length l.initial.rest);
}

abbrev pub decreases-build_children-loop-rest : goal.decreases-build_children-loop-rest
decreases-build_children-loop-rest g l = length l.rest
