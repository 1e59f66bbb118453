-- What the steps of the calls on trees need of the content, and what they leave.
use Rattle.std.specs.Prelude.{◌≡◌, ◌<◌, ◌*◌, ℕ, true, cond, List, [], Option, Some, ◌++◌, length}
use Rattle.data_nodes.specs.declared.head.Head.{Head}
use Rattle.data_nodes.specs.Layout.{NodeText, IsNode, depth_in, size_of}
use Rattle.store_api.specs.Content.{Id, Content, same_id}
use Rattle.store_api.specs.Holdings.{Holdings}
use Rattle.data_tree.specs.Trees.{IsTree, Holds, Forest, span, NoDoubles, Replaces}

-- the block of this id holds a node
pub record HasNode {S : Type 0} (H : Holdings S) (s : S) (id : Id) : Type 0 where
  pub text : List ℕ
  pub node : NodeText
  pub told : H.told s ≡ true
  pub there : H.content s id ≡ Some text
  pub is : IsNode text node

-- the head is that of this node
abbrev pub IsHeadOf : Head → NodeText → Type 0
IsHeadOf head node = (head.depth ≡ depth_in node) × (head.size ≡ size_of node)

-- a tree of this depth stands below this id
pub record HasTree {S : Type 0} (H : Holdings S) (s : S) (depth : ℕ) (id : Id) : Type 0 where
  pub bytes : List ℕ
  pub ids : List Id
  pub told : H.told s ≡ true
  pub tree : IsTree (H.payload s) (H.content s) depth id bytes ids
  pub alone : NoDoubles ids

-- a node of this depth, with what stands below it
pub record HasBelow {S : Type 0} (H : Holdings S) (s : S) (depth : ℕ) (node : NodeText) : Type 0 where
  pub bytes : List ℕ
  pub ids : List Id
  pub told : H.told s ≡ true
  pub holds : Holds (H.payload s) (H.content s) depth node bytes ids
  pub alone : NoDoubles ids

-- trees of this depth stand below these ids, one after the other
pub record HasTrees {S : Type 0} (H : Holdings S) (s : S) (depth : ℕ) (children : List Id) : Type 0 where
  pub bytes : List ℕ
  pub ids : List Id
  pub told : H.told s ≡ true
  pub trees : Forest (IsTree (H.payload s) (H.content s) depth) (span (H.payload s) depth) children bytes ids
  pub alone : NoDoubles ids

-- what no call changes
pub record KeepsShape {S : Type 0} (H : Holdings S) (a b : S) : Type 0 where
  pub told : H.told b ≡ H.told a
  pub payload : H.payload b ≡ H.payload a

-- the content with another payload, or none, for one id
abbrev pub Sets : Content → Content → Id → Option (List ℕ) → Type 0
Sets A B id change = (q : Id) → B q ≡ cond (same_id q id) change (A q)

-- the block of this id got this node
abbrev pub SetsNode : {S : Type 0} → Holdings S → S → S → Id → NodeText → Type 0
SetsNode H a b id node = (text : List ℕ) × (IsNode text node × ((length text ≡ H.payload a) × Sets (H.content a) (H.content b) id (Some text)))

-- what is left to drop: the trees below these ids, after others were dropped
pub record DropRest {S : Type 0} (H : Holdings S) (a s : S) (depth : ℕ) (children all : List Id) : Type 0 where
  pub bytes : List ℕ
  pub gone : List Id
  pub left : List Id
  pub parts : all ≡ gone ++ left
  pub trees : Forest (IsTree (H.payload s) (H.content s) depth) (span (H.payload s) depth) children bytes left
  pub dropped : Replaces (H.content a) (H.content s) gone []

-- a node was made that holds these bytes, with new blocks below it
pub record Built {S : Type 0} (H : Holdings S) (a b : S) (depth : ℕ) (node : NodeText) (w : List ℕ) : Type 0 where
  pub ids : List Id
  pub holds : Holds (H.payload b) (H.content b) depth node w ids
  pub alone : NoDoubles ids
  pub came : Replaces (H.content a) (H.content b) [] ids

-- new trees were made that hold these bytes, one after the other
pub record BuiltTrees {S : Type 0} (H : Holdings S) (a b : S) (depth : ℕ) (children : List Id) (w : List ℕ) : Type 0 where
  pub ids : List Id
  pub trees : Forest (IsTree (H.payload b) (H.content b) depth) (span (H.payload b) depth) children w ids
  pub alone : NoDoubles ids
  pub came : Replaces (H.content a) (H.content b) [] ids

-- a new tree stands below this id
pub record NewTree {S : Type 0} (H : Holdings S) (a b : S) (depth : ℕ) (id : Id) (w : List ℕ) : Type 0 where
  pub ids : List Id
  pub tree : IsTree (H.payload b) (H.content b) depth id w ids
  pub alone : NoDoubles ids
  pub came : Replaces (H.content a) (H.content b) [] ids

-- what is left to build, after new trees for the first bytes
pub record BuildRest {S : Type 0} (H : Holdings S) (a s : S) (depth : ℕ) (children : List Id) (left all : List ℕ) : Type 0 where
  pub done : List ℕ
  pub ids : List Id
  pub joined : done ++ left ≡ all
  pub full : 0 < length left → length done ≡ length children * span (H.payload s) depth
  pub trees : Forest (IsTree (H.payload s) (H.content s) depth) (span (H.payload s) depth) children done ids
  pub alone : NoDoubles ids
  pub came : Replaces (H.content a) (H.content s) [] ids
