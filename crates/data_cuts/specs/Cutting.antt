-- The right border of a tree, and the leaf at a place of it.
use Rattle.std.specs.Prelude.{◌≡◌, ◌⊎◌, ◌≤◌, ℕ, true, List, is_some, false, length}
use Rattle.std.specs.FinMap.{get}
use Rattle.data_tree.specs.data_nodes.Layout.{NodeText}
use Rattle.data_tree.specs.store_api.Content.{Id, Content, Changes}
use Rattle.data_tree.specs.Trees.{IsTree, NoDoubles, Replaces}
use Rattle.data_tree.specs.store_api.Holdings.{Holdings, has_id}
use Rattle.data_tree.specs.Needs.{HasTree, HasTrees, HasBelow}
use Rattle.data_tree.specs.Border.{OnBorder}

-- of the ids that are there only those of the border have something else in the changes
abbrev pub OnlyBorder : Content → ℕ → Id → Changes → Changes → Type 0
OnlyBorder B depth id old new = (q : Id) → is_some (B q) ≡ true → (get new q ≡ get old q) ⊎ OnBorder B depth id q

-- the tree of this depth has n bytes or more
pub record MayCut {S : Type 0} (H : Holdings S) (s : S) (depth : ℕ) (id : Id) (n : ℕ) : Type 0 where
  pub tree : HasTree H s depth id
  pub fits : n ≤ length tree.bytes

-- the same of a node that an id is to get which isn't below it
pub record MayCutNode {S : Type 0} (H : Holdings S) (s : S) (depth : ℕ) (id : Id) (node : NodeText) (n : ℕ) : Type 0 where
  pub below : HasBelow H s depth node
  pub apart : has_id below.ids id ≡ false
  pub fits : n ≤ length below.bytes

-- the same of its children
pub record MayCutTrees {S : Type 0} (H : Holdings S) (s : S) (depth : ℕ) (id : Id) (children : List Id) (n : ℕ) : Type 0 where
  pub trees : HasTrees H s depth children
  pub apart : has_id trees.ids id ≡ false
  pub fits : n ≤ length trees.bytes

-- in place of the old ids there is a tree of these bytes
pub record IsCut {S : Type 0} (H : Holdings S) (a b : S) (depth : ℕ) (id : Id) (w : List ℕ) (old : List Id) : Type 0 where
  pub ids : List Id
  pub tree : IsTree (H.payload b) (H.content b) depth id w ids
  pub alone : NoDoubles ids
  pub replaces : Replaces (H.content a) (H.content b) old ids
