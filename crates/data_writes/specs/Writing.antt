-- Writing inside the length of a tree.
use Rattle.std.specs.Prelude.{◌≡◌, ◌⊎◌, ◌≤◌, ◌<◌, ◌+◌, ◌*◌, ℕ, false, List, ◌++◌, length, take, drop}
use Rattle.data_tree.specs.data_nodes.Layout.{NodeText}
use Rattle.data_tree.specs.store_api.Content.{Id}
use Rattle.data_tree.specs.store_api.Holdings.{Holdings, has_id}
use Rattle.data_tree.specs.Trees.{IsTree, Forest, span}
use Rattle.data_tree.specs.Needs.{HasTree, HasTrees}

-- the piece in place of what stands from a place on
abbrev pub written_at : ℕ → List ℕ → List ℕ → List ℕ
written_at from piece w = take from w ++ piece ++ drop (from + length piece) w

-- so many bytes from a place on lie inside the tree
pub record MayWrite {S : Type 0} (H : Holdings S) (s : S) (depth : ℕ) (id : Id) (from n : ℕ) : Type 0 where
  pub tree : HasTree H s depth id
  pub inside : 0 < n → from + n ≤ length tree.bytes

pub record MayWriteNode {S : Type 0} (H : Holdings S) (s : S) (depth : ℕ) (id : Id) (node : NodeText) (from n : ℕ) : Type 0 where
  pub tree : HasTree H s depth id
  pub is : node ≡ tree.tree.node
  pub inside : 0 < n → from + n ≤ length tree.bytes

pub record MayWriteTrees {S : Type 0} (H : Holdings S) (s : S) (depth : ℕ) (children : List Id) (from n : ℕ) : Type 0 where
  pub trees : HasTrees H s depth children
  pub inside : 0 < n → from + n ≤ length trees.bytes

-- the tree holds these bytes now, under the same ids, and no other block changed
pub record WroteTree {S : Type 0} (H : Holdings S) (a b : S) (depth : ℕ) (id : Id) (w : List ℕ) (ids : List Id) : Type 0 where
  pub tree : IsTree (H.payload b) (H.content b) depth id w ids
  pub kept : (q : Id) → has_id ids q ≡ false → H.content b q ≡ H.content a q

pub record WroteTrees {S : Type 0} (H : Holdings S) (a b : S) (depth : ℕ) (children : List Id) (w : List ℕ) (ids : List Id) : Type 0 where
  pub trees : Forest (IsTree (H.payload b) (H.content b) depth) (span (H.payload b) depth) children w ids
  pub kept : (q : Id) → has_id ids q ≡ false → H.content b q ≡ H.content a q

-- what is left to write, after some of the trees were written
pub record WriteRest {S : Type 0} (H : Holdings S) (a s : S) (depth : ℕ) (passed children : List Id) (place : ℕ) (rest : List ℕ) (all : List ℕ) (ids : List Id) : Type 0 where
  pub done : List ℕ
  pub left : List ℕ
  pub ids_done : List Id
  pub ids_left : List Id
  pub parts : ids ≡ ids_done ++ ids_left
  pub joined : done ++ written_at place rest left ≡ all
  pub inside : 0 < length rest → place + length rest ≤ length left
  pub full : 0 < length left → length done ≡ length passed * span (H.payload s) depth
  pub trees_done : Forest (IsTree (H.payload s) (H.content s) depth) (span (H.payload s) depth) passed done ids_done
  pub trees_left : Forest (IsTree (H.payload s) (H.content s) depth) (span (H.payload s) depth) children left ids_left
  pub kept : (q : Id) → has_id ids_done q ≡ false → H.content s q ≡ H.content a q

-- Writing n bytes from a place on raises a number of changes by so many leaves at most: they have room for the n bytes, for what stands before
-- these in the first leaf, and for what follows in the last one.
pub record LeafCost (room before after from n all : ℕ) : Type 0 where
  pub leaves : ℕ
  pub head : ℕ
  pub tail : ℕ
  pub most : after ≤ before + leaves
  pub paid : leaves * room ≤ head + n + tail
  pub head_fits : head < room
  pub tail_fits : tail < room
  pub start : from ≡ 0 → head ≡ 0
  pub end : all ≤ from + n → tail ≡ 0
  pub none : n ≡ 0 → leaves ≡ 0

-- the same on the way: i trees of this size were passed, and so many of the n bytes are left from this place on
pub record CostRest (room before now from n i size place left : ℕ) : Type 0 where
  pub leaves : ℕ
  pub head : ℕ
  pub tail : ℕ
  pub most : now ≤ before + leaves
  pub paid : leaves * room + left ≤ head + n + tail
  pub head_fits : head < room
  pub tail_fits : tail < room
  pub start : from ≡ 0 → (head ≡ 0) × (place ≡ 0)
  pub open_end : 0 < left → tail ≡ 0
  pub once : (head ≡ 0) ⊎ (place ≡ 0)
  pub at : 0 < left → i * size + place + left ≡ from + n
  pub closed : (tail ≡ 0) ⊎ (from + n < i * size)
  pub none : n ≡ 0 → leaves ≡ 0
  pub fewer : left ≤ n
