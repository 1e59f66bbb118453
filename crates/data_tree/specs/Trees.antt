-- Left-filled trees of nodes that hold lists of bytes.
use Rattle.std.specs.Prelude.{◌≡◌, ◌⊎◌, ℕ, zero, suc, ◌<◌, ◌≤◌, ◌*◌, true, false, List, [], ◌∷◌, ◌++◌, length, take, drop, Some, None}
use Rattle.store_api.specs.Holdings.{has_id}
use Rattle.data_nodes.specs.Layout.{NodeText, leaf, inner, IsNode, room, fan_out}
use Rattle.store_api.specs.Content.{Id, Content}
pub use Rattle.data_nodes.specs.Layout.{depth_in}

-- for how many bytes a tree of this depth has room
abbrev pub span : ℕ → ℕ → ℕ
span payload zero = room payload
span payload (suc depth) = fan_out payload * span payload depth

-- the least depth with room for so many bytes
abbrev pub IsDepth : ℕ → ℕ → ℕ → Type 0
IsDepth payload zero n = n ≤ room payload
IsDepth payload (suc depth) n = (span payload depth < n) × (n ≤ span payload (suc depth))

-- w, cut into pieces of this size, of which the last may be shorter: a tree for each of them, in order
abbrev pub Forest : (Id → List ℕ → List Id → Type 0) → ℕ → List Id → List ℕ → List Id → Type 0
Forest T size [] w ids = (w ≡ []) × (ids ≡ [])
Forest T size (child ∷ children) w ids =
    (0 < length w) × ((own : List Id) × ((rest : List Id) × (T child (take size w) own × (Forest T size children (drop size w) rest × (ids ≡ own ++ rest)))))

-- the block of this id holds a node; the ids are its own and those below it
pub record NodeIn (B : Content) (payload : ℕ) (hold : NodeText → List ℕ → List Id → Type 0) (id : Id) (w : List ℕ) (ids : List Id) : Type 0 where
  pub text : List ℕ
  pub node : NodeText
  pub below : List Id
  pub there : B id ≡ Some text
  pub sized : length text ≡ payload
  pub is : IsNode text node
  pub holds : hold node w below
  pub all : ids ≡ id ∷ below

-- a node of this depth, with what is below it, holds w; the ids are those below it
abbrev pub Holds : ℕ → Content → ℕ → NodeText → List ℕ → List Id → Type 0
Holds payload B zero node w below = (node ≡ leaf w) × (below ≡ [])
Holds payload B (suc depth) node w below =
    (children : List Id) × ((node ≡ inner (suc depth) children) × Forest (NodeIn B payload (Holds payload B depth)) (span payload depth) children w below)

-- a tree of this depth holds w, and these are the ids of its nodes
abbrev pub IsTree : ℕ → Content → ℕ → Id → List ℕ → List Id → Type 0
IsTree payload B depth = NodeIn B payload (Holds payload B depth)

-- each id stands there once
abbrev pub NoDoubles : List Id → Type 0
NoDoubles [] = Unit {0}
NoDoubles (id ∷ ids) = (has_id ids id ≡ false) × NoDoubles ids

-- In place of the old ids the content has the new ones; every other id has what it had.
pub record Replaces (A B : Content) (old new : List Id) : Type 0 where
  pub kept : (id : Id) → has_id old id ≡ false → has_id new id ≡ false → B id ≡ A id
  pub gone : (id : Id) → has_id old id ≡ true → has_id new id ≡ false → B id ≡ None
  pub came : (id : Id) → has_id new id ≡ true → (has_id old id ≡ true) ⊎ (A id ≡ None)
