-- Trees that stand side by side, and their lengths.
use Rattle.std.proofs.Common.{◌≡◌, ℕ, zero, suc, ◌+◌, ◌-◌, ◌*◌, ◌<◌, ◌≤◌, List, [], ◌∷◌, length, drop, refl, sym, ◌∙◌, ap, subst, arith}
use Rattle.std.specs.Prelude.{true, false}
use Rattle.std.proofs.lemmas.List.{length-drop}
use Rattle.std.proofs.Math.Nat.{mul-le-mul_left}
use Rattle.data_nodes.specs.Layout.{NodeText, leaf, inner, IsNode, FitsPayload}
use Rattle.store_api.specs.Content.{Id, Content}
use Rattle.store_api.specs.Holdings.{Holdings, Stays, has_id}
use Rattle.data_tree.specs.Trees.{IsTree, Holds, Forest, IsDepth, span, NoDoubles, depth_in}
use Rattle.data_tree.proofs.Loads.{holds-depth}
use Rattle.data_tree.specs.Needs.{HasTree, HasTrees, HasBelow}
use Rattle.data_tree.specs.Roots.{IsRoot}

-- what speaks of the content alone holds on while blocks are only loaded
pub moved : {S : Type 0} (H : Holdings S) (a b : S) → Stays H a b → H.told a ≡ true → (Q : ℕ → Content → Type 0) → Q (H.payload a) (H.content a) → Q (H.payload b) (H.content b)
moved H a b stays told Q q =
    let path : H.content a ≡ H.content b = λ i id. sym (stays.content told id) i in
    subst (λ B. Q (H.payload b) B) path (subst (λ p. Q p (H.content a)) (sym stays.payload) q)

abbrev pub below_on : {S : Type 0} {H : Holdings S} {a b : S} {depth : ℕ} {node : NodeText} → Stays H a b → HasBelow H a depth node → HasBelow H b depth node
below_on {H = H} {a = a} {b = b} {depth = depth} {node = node} stays n = record {
  bytes = n.bytes;
  ids = n.ids;
  told = stays.told ∙ n.told;
  holds = moved H a b stays n.told (λ p B. Holds p B depth node n.bytes n.ids) n.holds;
  alone = n.alone;
}

-- what stands below the node of a tree
abbrev pub below_of : {S : Type 0} {H : Holdings S} {a : S} {depth : ℕ} {id : Id} (node : NodeText) → (n : HasTree H a depth id) → node ≡ n.tree.node → HasBelow H a depth node
below_of {H = H} {a = a} {depth = depth} {id = id} node n is = record {
  bytes = n.bytes;
  ids = n.tree.below;
  told = n.told;
  holds = subst (λ x. Holds (H.payload a) (H.content a) depth x n.bytes n.tree.below) (sym is) n.tree.holds;
  alone = let both : NoDoubles (id ∷ n.tree.below) = subst NoDoubles n.tree.all n.alone in both.1;
}

pub stays-then : {S : Type 0} {H : Holdings S} {a b c : S} → Stays H a b → Stays H b c → Stays H a c
stays-then {H = H} {a = a} {b = b} {c = c} one two = record {
  ids = λ id. two.ids id ∙ one.ids id;
  content = λ told id. two.content (one.told ∙ told) id ∙ one.content told id;
  told = two.told ∙ one.told;
  used = two.used ∙ one.used;
  spent = λ id. two.spent id ∙ one.spent id;
  version = λ id. two.version id ∙ one.version id;
  payload = two.payload ∙ one.payload;
}

pub stays-same : {S : Type 0} (H : Holdings S) (a : S) → Stays H a a
stays-same H a = record { ids = λ id. refl; content = λ told id. refl; told = refl; used = refl; spent = λ id. refl; version = λ id. refl; payload = refl }

-- a leaf's bytes are the tree's
pub leaf_is : (payload : ℕ) (B : Content) (depth : ℕ) (node : NodeText) (w bytes : List ℕ) (below : List Id) → Holds payload B depth node w below → leaf bytes ≡ node → bytes ≡ w
leaf_is payload B zero node w bytes below h is = let e : leaf bytes ≡ leaf w = is ∙ h.0 in cc
leaf_is payload B (suc depth) node w bytes below h is = let e : leaf bytes ≡ inner (suc depth) h.0 = is ∙ h.1.0 in absurd (cc)

-- below an inner node trees stand side by side
pub inner_is : (payload : ℕ) (B : Content) (depth d low : ℕ) (node : NodeText) (w : List ℕ) (children below : List Id) → Holds payload B depth node w below → inner d children ≡ node → low + 1 ≡ depth
    → Forest (IsTree payload B low) (span payload low) children w below
inner_is payload B zero d low node w children below h is deep = absurd (omega arith)
inner_is payload B (suc depth) d low node w children below h is deep =
    let e : inner d children ≡ inner (suc depth) h.0 = is ∙ h.1.0 in
    let same : h.0 ≡ children = cc in
    let level : depth ≡ low = omega arith in
    subst (λ k. Forest (IsTree payload B k) (span payload k) children w below) level (subst (λ cs. Forest (IsTree payload B depth) (span payload depth) cs w below) same h.1.1)

-- so many pieces have no more bytes than they have room for
pub forest-length : (T : Id → List ℕ → List Id → Type 0) (size : ℕ) (children : List Id) (w : List ℕ) (ids : List Id) → Forest T size children w ids → length w ≤ length children * size
forest-length T size [] w ids f = omega (arith, ap length f.0)
forest-length T size (child ∷ children) w ids (some, (own, (rest, (first, (others, all))))) =
    let more : length (drop size w) ≤ length children * size = forest-length T size children (drop size w) rest others in
    omega (arith, more, length-drop size w)

pub holds-fits : (payload : ℕ) (B : Content) (depth : ℕ) (node : NodeText) (w : List ℕ) (below : List Id) → Holds payload B depth node w below → FitsPayload payload node → length w ≤ span payload depth
holds-fits payload B zero node w below h fits = subst (FitsPayload payload) h.0 fits
holds-fits payload B (suc depth) node w below (children, (same, forest)) fits =
    let listed : FitsPayload payload (inner (suc depth) children) = subst (FitsPayload payload) same fits in
    let most : length w ≤ length children * span payload depth = forest-length (IsTree payload B depth) (span payload depth) children w below forest in
    omega (arith, listed.2, most, mul-le-mul_left (span payload depth) listed.2)

pub holds-length : (payload : ℕ) (B : Content) (depth : ℕ) (node : NodeText) (text w : List ℕ) (below : List Id) → Holds payload B depth node w below → IsNode text node → length text ≡ payload → length w ≤ span payload depth
holds-length payload B depth node text w below h is sized = holds-fits payload B depth node w below h (subst (λ n. FitsPayload n node) sized is.fits)

pub root_apart : {S : Type 0} {H : Holdings S} {a : S} {depth : ℕ} {id : Id} → (n : HasTree H a depth id) → has_id n.tree.below id ≡ false
root_apart {id = id} n = let both : NoDoubles (id ∷ n.tree.below) = subst NoDoubles n.tree.all n.alone in both.0

abbrev pub children_of : {S : Type 0} {H : Holdings S} {a : S} {depth : ℕ} (node : NodeText) (d low : ℕ) (children : List Id) → inner d children ≡ node → low + 1 ≡ depth → HasBelow H a depth node → HasTrees H a low children
children_of {H = H} {a = a} {depth = depth} node d low children is deep n = record {
  bytes = n.bytes;
  ids = n.ids;
  told = n.told;
  trees = inner_is (H.payload a) (H.content a) depth d low node n.bytes children n.ids n.holds is deep;
  alone = n.alone;
}

pub leaf_ids : (payload : ℕ) (B : Content) (depth : ℕ) (node : NodeText) (w bytes : List ℕ) (below : List Id) → Holds payload B depth node w below → leaf bytes ≡ node → below ≡ []
leaf_ids payload B zero node w bytes below h is = h.1
leaf_ids payload B (suc depth) node w bytes below h is = let e : leaf bytes ≡ inner (suc depth) h.0 = is ∙ h.1.0 in absurd (cc)

-- an inner node isn't at the lowest level
pub deep_of : (payload depth d : ℕ) (node : NodeText) (children : List Id) → inner d children ≡ node → FitsPayload payload node → depth_in node ≡ depth → (depth - 1) + 1 ≡ depth
deep_of payload depth d node children is fits level =
    let deep : 0 < d = (subst (FitsPayload payload) (sym is) fits).0 in
    let same : d ≡ depth = ap depth_in is ∙ level in
    omega arith

pub alone_root : {S : Type 0} {H : Holdings S} {a : S} {id : Id} → (n : IsRoot H a id) → (has_id n.tree.below id ≡ false) × NoDoubles n.tree.below
alone_root {id = id} n = let both : NoDoubles (id ∷ n.tree.below) = subst NoDoubles n.tree.all n.alone in both

-- what stands below the root's node
abbrev pub below_root : {S : Type 0} {H : Holdings S} {a : S} {id : Id} (node : NodeText) (depth : ℕ) → H.told a ≡ true → (n : IsRoot H a id) → node ≡ n.tree.node → depth_in node ≡ depth → HasBelow H a depth node
below_root {H = H} {a = a} node depth told n is level =
    let same : n.depth ≡ depth = sym (holds-depth (H.payload a) (H.content a) n.depth n.tree.node n.bytes n.tree.below n.tree.holds) ∙ ap depth_in (sym is) ∙ level in
    let holds : Holds (H.payload a) (H.content a) n.depth node n.bytes n.tree.below = subst (λ x. Holds (H.payload a) (H.content a) n.depth x n.bytes n.tree.below) (sym is) n.tree.holds in
    record {
      bytes = n.bytes;
      ids = n.tree.below;
      told = told;
      holds = subst (λ d. Holds (H.payload a) (H.content a) d node n.bytes n.tree.below) same holds;
      alone = (alone_root n).1;
    }

-- a root stands on while blocks are loaded
abbrev pub root_at : {S : Type 0} {H : Holdings S} {a b : S} {id : Id} → Stays H a b → H.told a ≡ true → IsRoot H a id → IsRoot H b id
root_at {H = H} {a = a} {b = b} {id = id} stays told n = record {
  bytes = n.bytes;
  ids = n.ids;
  depth = n.depth;
  small = n.small;
  deep = subst (λ p. IsDepth p n.depth (length n.bytes)) (sym stays.payload) n.deep;
  tree = moved H a b stays told (λ p B. IsTree p B n.depth id n.bytes n.ids) n.tree;
  alone = n.alone;
}
