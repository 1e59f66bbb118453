-- What a tree that is written anew needs.
use Rattle.std.specs.Prelude.{◌≡◌, ℕ, true, List, ◌∷◌}
use Rattle.data_tree.specs.data_nodes.Layout.{NodeText}
use Rattle.data_tree.specs.store_api.Content.{Id}
use Rattle.data_tree.specs.store_api.Holdings.{Holdings}
use Rattle.data_tree.specs.Trees.{Holds, NoDoubles, depth_in}

-- a root's node, with what stands below it
pub record HasRootNode {S : Type 0} (H : Holdings S) (s : S) (root : Id) (node : NodeText) : Type 0 where
  pub bytes : List ℕ
  pub ids : List Id
  pub told : H.told s ≡ true
  pub holds : Holds (H.payload s) (H.content s) (depth_in node) node bytes ids
  pub alone : NoDoubles (root ∷ ids)
