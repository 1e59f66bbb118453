-- Nodes that grow.
use Rattle.std.specs.Prelude.{◌≡◌, ◌≤◌, ◌<◌, ◌+◌, ◌*◌, ◌++◌, ℕ, List, length, take, min}
use Rattle.block_id.specs.declared.id.BlockId.{BlockId}
use Rattle.data_tree.specs.data_nodes.Layout.{NodeText, FitsPayload, fan_out, ids_of}
use Rattle.data_tree.specs.store_api.Content.{Id}
use Rattle.data_tree.specs.store_api.Holdings.{Holdings}
use Rattle.data_tree.specs.declared.level.Level.{Level}
use Rattle.data_tree.specs.Needs.{BuiltTrees}
use Rattle.data_tree.specs.Trees.{Holds, Forest, IsTree, IsDepth, span, NoDoubles, Replaces}

-- a node of this depth, which isn't put yet, holds these bytes; what stands below it came in place of the old ids
pub record Grown {S : Type 0} (H : Holdings S) (a b : S) (depth : ℕ) (node : NodeText) (w : List ℕ) (old : List Id) : Type 0 where
  pub ids : List Id
  pub holds : Holds (H.payload b) (H.content b) depth node w ids
  pub alone : NoDoubles ids
  pub replaces : Replaces (H.content a) (H.content b) old ids

-- the same of trees that stand side by side
pub record GrownTrees {S : Type 0} (H : Holdings S) (a b : S) (depth : ℕ) (children : List Id) (w : List ℕ) (old : List Id) : Type 0 where
  pub ids : List Id
  pub trees : Forest (IsTree (H.payload b) (H.content b) depth) (span (H.payload b) depth) children w ids
  pub alone : NoDoubles ids
  pub replaces : Replaces (H.content a) (H.content b) old ids

-- behind the children stand new trees for as many of the bytes as there are places for, and all fit into a node
pub record GrownChildren {S : Type 0} (H : Holdings S) (a b : S) (level : Level) (places : ℕ) (children : List BlockId) (bytes : List ℕ) (all : List BlockId) (taken : ℕ) : Type 0 where
  pub used : taken ≡ min (places * level.room) (length bytes)
  pub built : (new : List Id) × ((ids_of all ≡ ids_of children ++ new) × BuiltTrees H a b level.depth new (take taken bytes))
  pub few : length all ≤ fan_out (H.payload a)
  pub some : length children ≤ length all

-- A node of this depth, which isn't put, holds what stands before so many bytes, which make n. Where any are left it is full, and n is more than a tree of
-- a lower depth has room for.
pub record MayGrow {S : Type 0} (H : Holdings S) (s : S) (depth : ℕ) (node : NodeText) (n left : ℕ) : Type 0 where
  pub bytes : List ℕ
  pub ids : List Id
  pub holds : Holds (H.payload s) (H.content s) depth node bytes ids
  pub alone : NoDoubles ids
  pub fits : length bytes ≤ span (H.payload s) depth
  pub full : 0 < left → length bytes ≡ span (H.payload s) depth
  pub sum : length bytes + left ≡ n
  pub more : (low : ℕ) → low + 1 ≡ depth → span (H.payload s) low < n

-- a node of the depth of these bytes, which isn't put yet, holds them
pub record Raised {S : Type 0} (H : Holdings S) (a b : S) (node : NodeText) (w : List ℕ) (old : List Id) : Type 0 where
  pub depth : ℕ
  pub deep : IsDepth (H.payload b) depth (length w)
  pub grown : Grown H a b depth node w old

-- of so many bytes no more were taken than there are, and the node fits its payload
pub record TakesBytes (payload : ℕ) (node : NodeText) (taken bytes : ℕ) : Type 0 where
  pub used : taken ≤ bytes
  pub fits : FitsPayload payload node

-- a node has so many children
pub record IsChildCount (payload count : ℕ) : Type 0 where
  pub some : 0 < count
  pub few : count ≤ fan_out payload

-- of so many bytes no more were taken than there are, and a node has so many children
pub record ChildrenTake (payload n taken bytes : ℕ) : Type 0 where
  pub used : taken ≤ bytes
  pub count : IsChildCount payload n
