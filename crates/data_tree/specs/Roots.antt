-- Roots of left-filled trees, as the calls on trees need and leave them.
use Rattle.std.specs.Prelude.{◌≡◌, ◌≤◌, ◌^◌, ℕ, List, length, Some}
use Rattle.data_nodes.specs.Layout.{NodeText, inner, FitsPayload, IsNode}
use Rattle.store_api.specs.Content.{Id}
use Rattle.store_api.specs.Holdings.{Holdings}
use Rattle.data_tree.specs.declared.level.Level.{Level}
use Rattle.data_tree.specs.Trees.{IsTree, IsDepth, NoDoubles, Replaces, depth_in, span}

-- the left-filled tree of a list of at most 2^40 bytes stands below this id
pub record IsRoot {S : Type 0} (H : Holdings S) (s : S) (id : Id) : Type 0 where
  pub bytes : List ℕ
  pub ids : List Id
  pub depth : ℕ
  pub small : length bytes ≤ 2 ^ 40
  pub deep : IsDepth (H.payload s) depth (length bytes)
  pub tree : IsTree (H.payload s) (H.content s) depth id bytes ids
  pub alone : NoDoubles ids

-- in place of the old ids there is now the left-filled tree of a list below this id
pub record IsNewRoot {S : Type 0} (H : Holdings S) (a b : S) (id : Id) (old : List Id) (w : List ℕ) : Type 0 where
  pub ids : List Id
  pub depth : ℕ
  pub deep : IsDepth (H.payload b) depth (length w)
  pub tree : IsTree (H.payload b) (H.content b) depth id w ids
  pub alone : NoDoubles ids
  pub replaces : Replaces (H.content a) (H.content b) old ids

-- a node stands there that is deeper than the root of any tree of at most 2^40 bytes
pub record IsTooDeep {S : Type 0} (H : Holdings S) (s : S) (id : Id) : Type 0 where
  pub text : List ℕ
  pub depth : ℕ
  pub children : List Id
  pub there : H.content s id ≡ Some text
  pub is : IsNode text (inner depth children)
  pub deeper : (n : ℕ) → n ≤ 2 ^ 40 → IsDepth (H.payload s) depth n → ⊥

-- a node that fits its payload has this depth, of which a tree has so much room
pub record IsAtLevel (payload : ℕ) (node : NodeText) (level : Level) : Type 0 where
  pub fits : FitsPayload payload node
  pub depth : depth_in node ≡ level.depth
  pub room : level.room ≡ span payload level.depth
