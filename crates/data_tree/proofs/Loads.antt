-- What a load says of a tree's node.
use Rattle.std.proofs.Common.{◌≡◌, ℕ, zero, suc, List, take, sym, ◌∙◌, ap, subst}
use Rattle.std.specs.Prelude.{Option, Some, None}
use Rattle.std.specs.Option.{option_map}
use Rattle.std.proofs.lemmas.Option.{none-some, same_Some}
use Rattle.data_nodes.specs.declared.node.Node.{Node}
use Rattle.data_nodes.specs.Layout.{NodeText, IsNode, node_of}
use Rattle.store_api.specs.Content.{Id, Content}
use Rattle.store_api.specs.Fronts.{front_of}
use Rattle.data_tree.specs.Trees.{Holds, depth_in}

-- the node that was read is the one that the payload holds
pub read_is : (there : Option (List ℕ)) (text bytes now : List ℕ) (node : NodeText) (answer : Option Node) → there ≡ Some text → Some bytes ≡ there → now ≡ bytes → IsNode text node
    → ((other : NodeText) → IsNode now other → option_map node_of answer ≡ Some other) → option_map node_of answer ≡ Some node
read_is there text bytes now node answer holds found same is only = only node (subst (λ t. IsNode t node) (sym (same ∙ same_Some _ _ (found ∙ holds))) is)

pub read_some : (there : Option (List ℕ)) (text bytes now : List ℕ) (node : NodeText) (answer : Option Node) (x : Node) → answer ≡ Some x → there ≡ Some text → Some bytes ≡ there → now ≡ bytes → IsNode text node
    → ((other : NodeText) → IsNode now other → option_map node_of answer ≡ Some other) → node_of x ≡ node
read_some there text bytes now node answer x got holds found same is only = same_Some _ _ (ap (option_map node_of) (sym got) ∙ read_is there text bytes now node answer holds found same is only)

pub read_none : (there : Option (List ℕ)) (text bytes now : List ℕ) (node : NodeText) (answer : Option Node) → answer ≡ None → there ≡ Some text → Some bytes ≡ there → now ≡ bytes → IsNode text node
    → ((other : NodeText) → IsNode now other → option_map node_of answer ≡ Some other) → ⊥
read_none there text bytes now node answer got holds found same is only = none-some node (ap (option_map node_of) (sym got) ∙ read_is there text bytes now node answer holds found same is only)

-- the front that was read is that of the payload
pub front_is : (there : Option (List ℕ)) (text bytes now : List ℕ) (most : ℕ) → there ≡ Some text → Some bytes ≡ front_of most there → now ≡ bytes → now ≡ take most text
front_is there text bytes now most holds found same = same ∙ same_Some _ _ (found ∙ ap (front_of most) holds)

-- the node of a tree has its depth
pub holds-depth : (payload : ℕ) (B : Content) (depth : ℕ) (node : NodeText) (w : List ℕ) (below : List Id) → Holds payload B depth node w below → depth_in node ≡ depth
holds-depth payload B zero node w below h = ap depth_in h.0
holds-depth payload B (suc depth) node w below h = ap depth_in h.1.0
