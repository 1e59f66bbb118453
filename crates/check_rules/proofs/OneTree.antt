-- The tree below an id is one.
use Rattle.std.proofs.Common.{◌≡◌, ℕ, List, sym, ◌∙◌, subst}
use Rattle.std.specs.Prelude.{Some}
use Rattle.check_walk.specs.data_nodes.Layout.{NodeText, IsNode}
use Rattle.check_walk.proofs.data_nodes_lemmas.Laws.{one_node}
use Rattle.check_walk.specs.data_tree.Trees.{NodeIn}
use Rattle.check_walk.specs.data_tree.Stored.{BlobTree}
use Rattle.check_walk.proofs.data_tree_lemmas.OneTree.{same_tree}
use Rattle.check_walk.specs.store_api.Content.{Id, Content}

-- one block holds one node
pub node_is : (payload : ℕ) (B : Content) (h : NodeText → List ℕ → List Id → Type 0) (id : Id) (w : List ℕ) (ids : List Id) (n : NodeIn B payload h id w ids) (text : List ℕ) (node : NodeText) → B id ≡ Some text → IsNode text node → n.node ≡ node
node_is payload B h id w ids n text node there is =
    let both : Some n.text ≡ Some text = sym n.there ∙ there in
    let same : n.text ≡ text = cc in
    one_node text n.node node (subst (λ t. IsNode t n.node) same n.is) is

-- of an id's blob the bytes and the ids are the same
pub same_blob : (payload : ℕ) (B : Content) (id : Id) (w v : List ℕ) (ids jds : List Id) → BlobTree payload B id w ids → BlobTree payload B id v jds → (w ≡ v) × (ids ≡ jds)
same_blob payload B id w v ids jds n m =
    let same = same_tree payload B n.depth m.depth id w v ids jds n.tree m.tree in
    (same.bytes, same.ids)
