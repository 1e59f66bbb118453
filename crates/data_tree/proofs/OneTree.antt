-- The tree below an id is one.
use Rattle.std.proofs.Common.{◌≡◌, ℕ, zero, suc, List, [], ◌∷◌, ◌++◌, take, drop, sym, ◌∙◌, ap, subst}
use Rattle.std.specs.Prelude.{Some}
use Rattle.std.proofs.lemmas.List.{take-append-drop}
use Rattle.data_nodes.specs.Layout.{NodeText, leaf, inner, IsNode}
use Rattle.data_nodes.proofs.Laws.{one_node}
use Rattle.store_api.specs.Content.{Id, Content}
use Rattle.data_tree.specs.Trees.{IsTree, NodeIn, Holds, Forest, span, depth_in}
use Rattle.data_tree.proofs.Loads.{holds-depth}

-- one block holds one node
same_node : (payload : ℕ) (B : Content) (h k : NodeText → List ℕ → List Id → Type 0) (id : Id) (w v : List ℕ) (ids jds : List Id) → (n : NodeIn B payload h id w ids) → (m : NodeIn B payload k id v jds) → n.node ≡ m.node
same_node payload B h k id w v ids jds n m =
    let both : Some n.text ≡ Some m.text = sym n.there ∙ m.there in
    let text : n.text ≡ m.text = cc in
    one_node m.text n.node m.node (subst (λ t. IsNode t n.node) text n.is) m.is

same_forest : (T : Id → List ℕ → List Id → Type 0) → ((id : Id) (w v : List ℕ) (ids jds : List Id) → T id w ids → T id v jds → (w ≡ v) × (ids ≡ jds)) → (size : ℕ) (children : List Id) (w v : List ℕ) (ids jds : List Id)
    → Forest T size children w ids → Forest T size children v jds → (w ≡ v) × (ids ≡ jds)
same_forest T each size [] w v ids jds f g = (f.0 ∙ sym g.0, f.1 ∙ sym g.1)
same_forest T each size (child ∷ children) w v ids jds (some, (own, (rest, (first, (others, all))))) (some2, (own2, (rest2, (first2, (others2, all2))))) =
    let head = each child (take size w) (take size v) own own2 first first2 in
    let tail = same_forest T each size children (drop size w) (drop size v) rest rest2 others others2 in (
      sym (take-append-drop size w) ∙ ap (λ xs. xs ++ drop size w) head.0 ∙ ap (λ xs. take size v ++ xs) tail.0 ∙ take-append-drop size v,
      all ∙ ap (λ xs. xs ++ rest) head.1 ∙ ap (λ xs. own2 ++ xs) tail.1 ∙ sym all2,
    )

same_holds : (payload : ℕ) (B : Content) (depth : ℕ) (node : NodeText) (w v : List ℕ) (below under : List Id) → Holds payload B depth node w below → Holds payload B depth node v under → (w ≡ v) × (below ≡ under)
same_holds payload B zero node w v below under h k =
    let both : leaf w ≡ leaf v = sym h.0 ∙ k.0 in
    let bytes : w ≡ v = cc in
    (bytes, h.1 ∙ sym k.1)
same_holds payload B (suc depth) node w v below under (children, (is, f)) (others, (also, g)) =
    let both : inner (suc depth) children ≡ inner (suc depth) others = sym is ∙ also in
    let same : others ≡ children = cc in
    same_forest (IsTree payload B depth)
    (λ id piece part ids jds n m.
    let node : m.node ≡ n.node = same_node payload B (Holds payload B depth) (Holds payload B depth) id part piece jds ids m n in
    let rest = same_holds payload B depth n.node piece part n.below m.below n.holds (subst (λ x. Holds payload B depth x part m.below) node m.holds) in
    (rest.0, n.all ∙ ap (λ xs. id ∷ xs) rest.1 ∙ sym m.all))
    (span payload depth) children w v below under f (subst (λ cs. Forest (IsTree payload B depth) (span payload depth) cs v under) same g)

-- the trees below an id are one, of one depth
pub record SameTree (d e : ℕ) (w v : List ℕ) (xs ys : List Id) : Type 0 where
  pub depth : d ≡ e
  pub bytes : w ≡ v
  pub ids : xs ≡ ys

pub same_tree : (payload : ℕ) (B : Content) (depth height : ℕ) (id : Id) (w v : List ℕ) (ids jds : List Id) → IsTree payload B depth id w ids → IsTree payload B height id v jds → SameTree depth height w v ids jds
same_tree payload B depth height id w v ids jds n m =
    let node : m.node ≡ n.node = same_node payload B (Holds payload B height) (Holds payload B depth) id v w jds ids m n in
    let deep : height ≡ depth = sym (holds-depth payload B height m.node v m.below m.holds) ∙ ap depth_in node ∙ holds-depth payload B depth n.node w n.below n.holds in
    let again : Holds payload B depth n.node v m.below = subst (λ d. Holds payload B d n.node v m.below) deep (subst (λ x. Holds payload B height x v m.below) node m.holds) in
    let rest = same_holds payload B depth n.node w v n.below m.below n.holds again in
    record { depth = sym deep; bytes = rest.0; ids = n.all ∙ ap (λ xs. id ∷ xs) rest.1 ∙ sym m.all }
