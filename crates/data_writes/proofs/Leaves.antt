-- The leaf at a place of a tree, in one content and in another.
use Rattle.std.proofs.Common.{◌≡◌, ◌⊎◌, ℕ, zero, suc, ◌+◌, ◌-◌, ◌*◌, ◌/◌, ◌%◌, ◌<◌, ◌≤◌, Bool, true, false, List, [], ◌∷◌, length, take, drop, get_or, refl, sym, ◌∙◌, ap, subst, inl, inr, arith}
use Rattle.std.specs.Prelude.{Some, min}
use Rattle.std.specs.FinMap.{get}
use Rattle.std.proofs.lemmas.List.{length-take, length-drop, get_or-drop}
use Rattle.std.proofs.lemmas.Nat.{div-mul-add, mod-mul-add}
use Rattle.std.proofs.Math.Nat.{div-add-mod', mod-lt}
use Rattle.std.proofs.lemmas.Bool.{or_left, or_right}
use Rattle.std.proofs.lemmas.Option.{same_Some}
use Rattle.data_tree.proofs.store_api_lemmas.Rising.{same_id_is}
use Rattle.data_tree.specs.data_nodes.Layout.{leaf, inner, IsNode}
use Rattle.data_tree.specs.store_api.Content.{Id, Content, Changes, same_id}
use Rattle.data_tree.specs.store_api.Holdings.{Holdings, Stays, has_id}
use Rattle.data_tree.specs.Trees.{IsTree, Forest, span}
use Rattle.data_tree.proofs.data_nodes_lemmas.Laws.{one_node}
use Rattle.data_tree.proofs.Ids.{in_left, in_right, same_self}
use Rattle.data_tree.proofs.Levels.{span-some}
use Rattle.data_writes.specs.Leaves.{LeafAt, LeafAmong, OnlyLeaves, OnlyAmong}

-- another id, or the one that was put
pub others_or : (old new : Changes) (id : Id) (Inside : Type 0) → ((q : Id) → same_id q id ≡ false → get new q ≡ get old q) → Inside → (q : Id) → (get new q ≡ get old q) ⊎ ((q ≡ id) × Inside)
others_or old new id Inside others inside q = by (same_id q id) refl
  where
    by : (b : Bool) → same_id q id ≡ b → (get new q ≡ get old q) ⊎ ((q ≡ id) × Inside)
    by true e = inr (same_id_is q id e, inside)
    by false e = inl (others q e)

-- the tree side by side with others in which a place lies
record TreeAt (T : Id → List ℕ → List Id → Type 0) (children : List Id) (i place : ℕ) (ids : List Id) : Type 0 where
  piece : List ℕ
  own : List Id
  tree : T (get_or children i []) piece own
  inside : place < length piece
  among : (q : Id) → has_id own q ≡ true → has_id ids q ≡ true

passed_one : (i size : ℕ) → (suc i) * size ≡ i * size + size
passed_one i size = omega arith

tree_at : (T : Id → List ℕ → List Id → Type 0) (size : ℕ) (children : List Id) (i place : ℕ) (w : List ℕ) (ids : List Id) → place < size → i * size + place < length w → Forest T size children w ids → TreeAt T children i place ids
tree_at T size [] i place w ids small lies f = absurd (omega (arith, ap length f.0))
tree_at T size (child ∷ children) zero place w ids small lies (some, (own, (rest, (first, (others, all))))) = record {
  piece = take size w;
  own = own;
  tree = first;
  inside = omega (arith, length-take size w);
  among = λ q h. subst (λ xs. has_id xs q ≡ true) (sym all) (in_left own rest q h);
}
tree_at T size (child ∷ children) (suc i) place w ids small lies (some, (own, (rest, (first, (others, all))))) =
    let more = tree_at T size children i place (drop size w) rest small (omega (arith, length-drop size w, passed_one i size)) others in
    record {
      piece = more.piece;
      own = more.own;
      tree = more.tree;
      inside = more.inside;
      among = λ q h. subst (λ xs. has_id xs q ≡ true) (sym all) (in_right own rest q (more.among q h));
    }

-- the block at a place of a tree holds a leaf, whose id is one of the tree's; where the blocks are the same, it is the leaf there, too
pub record IsLeafOf (payload : ℕ) (A B : Content) (depth : ℕ) (id : Id) (ids : List Id) (place : ℕ) (q : Id) : Type 0 where
  pub at : LeafAt payload A depth id place q
  pub among : has_id ids q ≡ true
  pub text : List ℕ
  pub bytes : List ℕ
  pub there : B q ≡ Some text
  pub is : IsNode text (leaf bytes)

pub leaf_of : (payload : ℕ) (A B : Content) (depth : ℕ) (id : Id) (w : List ℕ) (ids : List Id) (place : ℕ) (q : Id) → 50 ≤ payload → IsTree payload B depth id w ids → ((p : Id) → has_id ids p ≡ true → A p ≡ B p) → place < length w
    → LeafAt payload B depth id place q → IsLeafOf payload A B depth id ids place q
leaf_of payload A B zero id w ids place q least n same lies at = record {
  at = at;
  among = subst (λ xs. has_id xs q ≡ true) (sym n.all) (or_left (same_id q id) (has_id n.below q) (subst (λ x. same_id q x ≡ true) at (same_self q)));
  text = n.text;
  bytes = w;
  there = subst (λ x. B x ≡ Some n.text) (sym at) n.there;
  is = subst (IsNode n.text) n.holds.0 n.is;
}
leaf_of payload A B (suc depth) id w ids place q least n same lies (text, (children, (there, (is, sub)))) =
    let size = span payload depth in
    let positive : 0 < size = span-some payload depth least in
    let texts : text ≡ n.text = same_Some _ _ (sym there ∙ n.there) in
    let node : inner (suc depth) children ≡ inner (suc depth) n.holds.0 = one_node text (inner (suc depth) children) (inner (suc depth) n.holds.0) is (subst (λ t. IsNode t (inner (suc depth) n.holds.0)) (sym texts) (subst (IsNode n.text) n.holds.1.0 n.is)) in
    let listed : n.holds.0 ≡ children = cc in
    let whole : place / size * size + place % size ≡ place = div-add-mod' place size in
    let found = tree_at (IsTree payload B depth) size children (place / size) (place % size) w n.below (mod-lt place positive) (omega (arith, whole)) (subst (λ cs. Forest (IsTree payload B depth) size cs w n.below) listed n.holds.1.1) in
    let here : (p : Id) → has_id n.below p ≡ true → has_id ids p ≡ true = λ p h. subst (λ xs. has_id xs p ≡ true) (sym n.all) (or_right (same_id p id) (has_id n.below p) h) in
    let root : has_id ids id ≡ true = subst (λ xs. has_id xs id ≡ true) (sym n.all) (or_left (same_id id id) (has_id n.below id) (same_self id)) in
    let below = leaf_of payload A B depth (get_or children (place / size) []) found.piece found.own (place % size) q least found.tree (λ p h. same p (here p (found.among p h))) found.inside sub in
    record {
      at = (text, (children, (same id root ∙ there, (is, below.at))));
      among = here q (found.among q below.among);
      text = below.text;
      bytes = below.bytes;
      there = below.there;
      is = below.is;
    }

-- the id that stands at a place
pub stands_at : (ids : List Id) (i : ℕ) (id : Id) (rest : List Id) → drop i ids ≡ id ∷ rest → get_or ids i [] ≡ id
stands_at ids i id rest is =
    let e : i + 0 ≡ i = omega arith in
    sym (ap (λ k. get_or ids k []) e) ∙ sym (get_or-drop i ids 0 []) ∙ ap (λ xs. get_or xs 0 []) is

-- a leaf was written
pub only_leaf : (payload : ℕ) (B : Content) (depth : ℕ) (id : Id) (from n : ℕ) (old new : Changes) (q : Id) {Inside : Type 0} → 0 ≡ depth → 0 < n → (get new q ≡ get old q) ⊎ ((q ≡ id) × Inside)
    → (get new q ≡ get old q) ⊎ ((place : ℕ) × ((from ≤ place) × ((place < from + n) × LeafAt payload B depth id place q)))
only_leaf payload B depth id from n old new q low some (inl same) = inl same
only_leaf payload B depth id from n old new q low some (inr hit) = inr (from, (omega arith, (omega arith, subst (λ d. LeafAt payload B d id from q) low hit.0)))

leaf_below : (payload : ℕ) (B : Content) (depth d low : ℕ) (id : Id) (text : List ℕ) (children : List Id) (place : ℕ) (q : Id) → low + 1 ≡ depth → d ≡ depth → B id ≡ Some text → IsNode text (inner d children) → LeafAmong payload B low children place q → LeafAt payload B depth id place q
leaf_below payload B zero d low id text children place q deep level there is found = absurd (omega arith)
leaf_below payload B (suc depth) d low id text children place q deep level there is found =
    let below : low ≡ depth = omega arith in
    (text, (children, (there, (subst (λ k. IsNode text (inner k children)) level is, subst (λ k. LeafAmong payload B k children place q) below found))))

-- what stands below a node was written
pub only_below : (payload : ℕ) (B : Content) (depth d low : ℕ) (id : Id) (text : List ℕ) (children : List Id) (from n : ℕ) (old new : Changes) → low + 1 ≡ depth → d ≡ depth → B id ≡ Some text → IsNode text (inner d children)
    → OnlyAmong payload B low children from n old new → OnlyLeaves payload B depth id from n old new
only_below payload B depth d low id text children from n old new deep level there is only q = elim (only q) [
  | inl same ↦ inl same
  | inr hit ↦ inr (hit.0, (hit.1.0, (hit.1.1.0, leaf_below payload B depth d low id text children hit.0 q deep level there is hit.1.1.1)))
]

-- the same, told of the content before blocks were loaded
pub only_since : {S : Type 0} {H : Holdings S} {a b : S} → Stays H a b → H.told a ≡ true → (depth : ℕ) (id : Id) (from n : ℕ) (old before new : Changes) → old ≡ before → OnlyLeaves (H.payload b) (H.content b) depth id from n old new → OnlyLeaves (H.payload a) (H.content a) depth id from n before new
only_since {H = H} {a = a} {b = b} stays told depth id from n old before new same only =
    let path : H.content b ≡ H.content a = λ i q. stays.content told q i in
    subst (λ o. OnlyLeaves (H.payload a) (H.content a) depth id from n o new) same (subst (λ B. OnlyLeaves (H.payload a) B depth id from n old new) path (subst (λ p. OnlyLeaves p (H.content b) depth id from n old new) stays.payload only))

-- one more of the trees was written
pub only_next : (payload here : ℕ) (A B : Content) (depth : ℕ) (children : List Id) (child : Id) (rest : List Id) (old mid new : Changes) (i size from n left place m : ℕ) (w : List ℕ) (own : List Id) → here ≡ payload → 50 ≤ payload
    → drop i children ≡ child ∷ rest → size ≡ span payload depth → m ≡ min (size - place) left → (0 < left → i * size + place + left ≡ from + n) → left ≤ n → (0 < m → place + m ≤ length w)
    → IsTree here B depth child w own → ((q : Id) → has_id own q ≡ true → A q ≡ B q) → OnlyAmong payload A depth children from n old mid → OnlyLeaves here B depth child place m mid new → OnlyAmong payload A depth children from n old new
only_next payload here A B depth children child rest old mid new i size from n left place m w own long least is sized cut at fewer inside tree same so_far next q = elim (next q) [
  | inl kept ↦ elim (so_far q) [ inl was ↦ inl (kept ∙ was) | inr found ↦ inr found ]
  | inr hit ↦ inr (i * size + hit.0, (begins hit.0 hit.1.0 hit.1.1.0, (ends hit.0 hit.1.0 hit.1.1.0, lies hit.0 hit.1.0 hit.1.1.0 hit.1.1.1)))
]
  where
    begins : (p : ℕ) → place ≤ p → p < place + m → from ≤ i * size + p
    begins p lo hi = let sum = at (omega (arith, cut)) in omega (arith, sum, fewer)

    ends : (p : ℕ) → place ≤ p → p < place + m → i * size + p < from + n
    ends p lo hi = let sum = at (omega (arith, cut)) in omega (arith, sum, cut)

    lies : (p : ℕ) → place ≤ p → p < place + m → LeafAt here B depth child p q → LeafAmong payload A depth children (i * size + p) q
    lies p lo hi found =
        let low : p < span payload depth = omega (arith, cut, sized) in
        let sum : i * size + p ≡ i * span payload depth + p = ap (λ k. i * k + p) sized in
        let which : (i * size + p) / span payload depth ≡ i = ap (λ k. k / span payload depth) sum ∙ div-mul-add i (span payload depth) p low in
        let where_in : (i * size + p) % span payload depth ≡ p = ap (λ k. k % span payload depth) sum ∙ mod-mul-add i (span payload depth) p low in
        let that : get_or children ((i * size + p) / span payload depth) [] ≡ child = ap (λ k. get_or children k []) which ∙ stands_at children i child rest is in
        let there = leaf_of payload A B depth child w own p q least (subst (λ l. IsTree l B depth child w own) long tree) same (omega (arith, inside (omega (arith, cut)))) (subst (λ l. LeafAt l B depth child p q) long found) in
        subst (λ c. LeafAt payload A depth c ((i * size + p) % span payload depth) q) (sym that) (subst (λ k. LeafAt payload A depth child k q) (sym where_in) there.at)
