-- What a walk over blocks did and found.
use Rattle.std.specs.Prelude.{◌≡◌, ◌≤◌, ◌<◌, ◌*◌, ℕ, Bool, true, List, [], ◌∷◌, length, map, reverse, Some}
use Rattle.data_tree.specs.data_nodes.Layout.{NodeText, IsNode}
use Rattle.data_tree.specs.Trees.{NoDoubles}
use Rattle.data_tree.specs.store_api.Content.{Id, Content}
use Rattle.data_tree.specs.store_api.Loads.{LoadAnswer}
use Rattle.check_walk.specs.Fronts.{FrontState, joined_front}
use Rattle.check_walk.specs.Given.{Given, GaveBy, AgreesWith}
use Rattle.check_walk.specs.Marks.{MarkList, MarkedAll}

-- Blocks were loaded, each once, and got this owner. `Hold` says of each content in which they have what was given that they hold these bytes; `Fact` says
-- what holds of the bytes besides. The first bytes are kept.
pub record Walked {S : Type 0} (loads : S → S → Id → LoadAnswer → Type 0) (owner : ℕ) (a b : S) (old new : MarkList) (front back : FrontState)
    (Hold : Content → List ℕ → List Id → Type 0) (Fact : List ℕ → Type 0) : Type 0 where
  pub given : Given
  pub gave : GaveBy loads a given b
  pub bytes : List ℕ
  pub ids : List Id
  pub once : map (λ g. g.0) given ≡ reverse ids
  pub hold : (B : Content) → AgreesWith B given → Hold B bytes ids
  pub fact : Fact bytes
  pub alone : NoDoubles ids
  pub marked : MarkedAll old new ids owner
  pub most : back.most ≡ front.most
  pub kept : back.bytes ≡ joined_front front bytes

-- one block, which holds this node
pub record IsNodeAt (payload : ℕ) (id : Id) (node : NodeText) (B : Content) (bytes : List ℕ) (ids : List Id) : Type 0 where
  pub text : List ℕ
  pub there : B id ≡ Some text
  pub is : IsNode text node
  pub sized : length text ≡ payload
  pub none : bytes ≡ []
  pub one : ids ≡ id ∷ []

-- the bytes of a tree that isn't a root: some, as many as are told, no more than there is room for, and all of these where it has to be full
pub record FillsTree (len room : ℕ) (full : Bool) (bytes : List ℕ) : Type 0 where
  pub told : len ≡ length bytes
  pub some : 0 < length bytes
  pub fits : length bytes ≤ room
  pub whole : full ≡ true → length bytes ≡ room

-- the bytes of so many trees, all full
pub record FillsAll (len count room : ℕ) (bytes : List ℕ) : Type 0 where
  pub told : len ≡ length bytes
  pub whole : length bytes ≡ count * room

-- the bytes of so many trees, of which only the last may have fewer than there is room for
pub record FillsTrees (len count room : ℕ) (full : Bool) (bytes : List ℕ) : Type 0 where
  pub told : len ≡ length bytes
  pub some : 0 < length bytes
  pub fits : length bytes ≤ count * room
  pub whole : full ≡ true → length bytes ≡ count * room
  pub above : 2 ≤ count → room < length bytes
