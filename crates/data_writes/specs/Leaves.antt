-- The leaf at a place of a tree, and changes of nothing but leaves.
use Rattle.std.specs.Prelude.{◌≡◌, ◌⊎◌, ◌+◌, ◌<◌, ◌≤◌, ◌/◌, ◌%◌, ℕ, zero, suc, List, [], Some}
use Rattle.std.proofs.Common.{get_or}
use Rattle.std.specs.FinMap.{get}
use Rattle.data_tree.specs.data_nodes.Layout.{inner, IsNode}
use Rattle.data_tree.specs.store_api.Content.{Id, Content, Changes}
use Rattle.data_tree.specs.Trees.{span}

-- the leaf that holds a place of the tree below this id
abbrev pub LeafAt : ℕ → Content → ℕ → Id → ℕ → Id → Type 0
LeafAt payload B zero id place leaf = leaf ≡ id
LeafAt payload B (suc depth) id place leaf =
    (text : List ℕ) × ((children : List Id) × ((B id ≡ Some text) × (IsNode text (inner (suc depth) children) × LeafAt payload B depth (get_or children (place / span payload depth) []) (place % span payload depth) leaf)))

-- the leaf at a place of the trees that stand side by side
abbrev pub LeafAmong : ℕ → Content → ℕ → List Id → ℕ → Id → Type 0
LeafAmong payload B depth children place leaf = LeafAt payload B depth (get_or children (place / span payload depth) []) (place % span payload depth) leaf

-- n bytes from a place on were written in: the changes are as before but for leaves that hold a place of the range
abbrev pub OnlyLeaves : ℕ → Content → ℕ → Id → ℕ → ℕ → Changes → Changes → Type 0
OnlyLeaves payload B depth root from n old new =
    (q : Id) → (get new q ≡ get old q) ⊎ ((place : ℕ) × ((from ≤ place) × ((place < from + n) × LeafAt payload B depth root place q)))

-- the same of the trees that stand side by side
abbrev pub OnlyAmong : ℕ → Content → ℕ → List Id → ℕ → ℕ → Changes → Changes → Type 0
OnlyAmong payload B depth children from n old new =
    (q : Id) → (get new q ≡ get old q) ⊎ ((place : ℕ) × ((from ≤ place) × ((place < from + n) × LeafAmong payload B depth children place q)))
