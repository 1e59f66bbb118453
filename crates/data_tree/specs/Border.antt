-- The right border of a tree.
use Rattle.std.specs.Prelude.{◌≡◌, ◌⊎◌, ℕ, zero, suc, List, [], ◌∷◌, ◌++◌, Some}
use Rattle.data_nodes.specs.Layout.{NodeText, inner, IsNode}
use Rattle.store_api.specs.Content.{Id, Content}

-- the root, its last child, and so on down to the last leaf
abbrev pub OnBorder : Content → ℕ → Id → Id → Type 0
OnBorder B zero id q = q ≡ id
OnBorder B (suc depth) id q =
    (q ≡ id) ⊎ ((text : List ℕ) × ((children : List Id) × ((front : List Id) × ((last : Id) × ((B id ≡ Some text) × (IsNode text (inner (suc depth) children) × ((children ≡ front ++ last ∷ []) × OnBorder B depth last q)))))))

-- the border of the last of the trees that stand side by side
abbrev pub OnLastBorder : Content → ℕ → List Id → Id → Type 0
OnLastBorder B depth children q = (front : List Id) × ((last : Id) × ((children ≡ front ++ last ∷ []) × OnBorder B depth last q))

-- the border below a node of this depth
abbrev pub OnBorderBelow : Content → ℕ → NodeText → Id → Type 0
OnBorderBelow B zero node q = ⊥
OnBorderBelow B (suc depth) node q = (children : List Id) × ((node ≡ inner (suc depth) children) × OnLastBorder B depth children q)
