-- What a blob's tree needs of each of its nodes.
use Rattle.std.specs.Prelude.{◌≡◌, ◌≤◌, ◌<◌, ◌*◌, ◌^◌, ◌||◌, ℕ, suc, Bool, true, false, nat_lt, List, [], ◌∷◌, length, Some}
use Rattle.std.specs.List.{slice_get}
use Rattle.data_tree.specs.data_nodes.Layout.{NodeText, leaf, inner, IsNode, room, fan_out}
use Rattle.data_tree.specs.declared.level.Level.{Level}
use Rattle.data_tree.specs.Roots.{IsAtLevel}
use Rattle.data_tree.specs.Trees.{IsDepth, depth_in, span}
use Rattle.data_tree.specs.store_api.Content.{Id, Content}

-- a blob's root, or a node of this depth below it, which may have to be full
pub data NodeNeed : Type 0 where
  top : NodeNeed
  under : ℕ → Bool → NodeNeed

-- whether no byte may be missing below the node
abbrev pub fills : NodeNeed → Bool
fills top = false
fills (under depth full) = full

-- ---- one node

-- a root is a leaf, or has two children or more and a depth that lists of at most 2^40 bytes have
abbrev pub IsTop : ℕ → NodeText → Type 0
IsTop payload (leaf bytes) = Unit {0}
IsTop payload (inner depth children) = (2 ≤ length children) × ((n : ℕ) × ((n ≤ 2 ^ 40) × IsDepth payload depth n))

abbrev pub IsFilled : NodeText → Type 0
IsFilled (leaf bytes) = 0 < length bytes
IsFilled (inner depth children) = 0 < length children

-- as many bytes or children as there is room for
abbrev pub IsFull : ℕ → NodeText → Type 0
IsFull payload (leaf bytes) = length bytes ≡ room payload
IsFull payload (inner depth children) = length children ≡ fan_out payload

pub record IsUnder (payload depth : ℕ) (full : Bool) (node : NodeText) : Type 0 where
  pub deep : depth_in node ≡ depth
  pub some : IsFilled node
  pub whole : full ≡ true → IsFull payload node

abbrev pub ServesAs : ℕ → NodeNeed → NodeText → Type 0
ServesAs payload top node = IsTop payload node
ServesAs payload (under depth full) node = IsUnder payload depth full node

-- these bytes hold a node that is what is needed
pub record Serves (payload : ℕ) (need : NodeNeed) (text : List ℕ) : Type 0 where
  pub node : NodeText
  pub is : IsNode text node
  pub serves : ServesAs payload need node

-- ---- from node to node

-- the child with this number, and what is needed of it: all but the last have to be full, and the last where the node has to be
abbrev pub AtChild : (Id → NodeNeed → Type 0) → ℕ → ℕ → Bool → List Id → Type 0
AtChild P i depth full children = (child : Id) × ((slice_get children i ≡ Some child) × P child (under depth (nat_lt (suc i) (length children) || full)))

-- from a node on, of which this is needed, the children with these numbers lead to a node, of which that is needed
abbrev pub Leads : Content → Id → NodeNeed → List ℕ → Id → NodeNeed → Type 0
Leads C id need [] x wanted = (x ≡ id) × (wanted ≡ need)
Leads C id need (i ∷ way) x wanted =
    (text : List ℕ) × ((depth : ℕ) × ((children : List Id) × ((C id ≡ Some text) × (IsNode text (inner (suc depth) children) × AtChild (λ child below. Leads C child below way x wanted) i depth (fills need) children))))

-- the same from one of the trees on that stand side by side
abbrev pub LeadsAmong : Content → ℕ → Bool → List Id → List ℕ → Id → NodeNeed → Type 0
LeadsAmong C depth full children [] x wanted = ⊥
LeadsAmong C depth full children (i ∷ way) x wanted = AtChild (λ child below. Leads C child below way x wanted) i depth full children

-- ---- what a walk's steps are given

-- a tree of this level, for a place of this number
pub record WalksTree (payload number : ℕ) (level : Level) : Type 0 where
  pub owner : 0 < number
  pub room : level.room ≡ span payload level.depth
  pub small : level.room < 2 ^ 63

-- the same of a node of this level, which was loaded
pub record WalksNode (payload number : ℕ) (level : Level) (node : NodeText) : Type 0 where
  pub owner : 0 < number
  pub small : level.room < 2 ^ 63
  pub at : IsAtLevel payload node level

-- the same of so many trees of this level
pub record WalksTrees (payload number : ℕ) (level : Level) (count : ℕ) : Type 0 where
  pub owner : 0 < number
  pub room : level.room ≡ span payload level.depth
  pub some : 0 < count
  pub small : count * level.room < 2 ^ 63
