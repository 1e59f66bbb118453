-- The trees that walks find.
use Rattle.std.proofs.Common.{◌≡◌, ◌⊎◌, inl, inr, ℕ, zero, suc, ◌+◌, ◌*◌, ◌-◌, ◌/◌, ◌<◌, ◌≤◌, Bool, true, false, List, [], ◌∷◌, ◌++◌, length, refl, sym, ◌∙◌, ap, subst, arith}
use Rattle.std.proofs.lemmas.List.{length-append}
use Rattle.std.proofs.Math.Nat.{mul-le-mul_right}
use Rattle.data_tree.specs.data_nodes.Layout.{NodeText, leaf, inner, fan_out}
use Rattle.data_tree.specs.Trees.{IsTree, Holds, Forest, IsDepth, span, NoDoubles, depth_in}
use Rattle.data_tree.specs.Stored.{BlobTree}
use Rattle.data_tree.proofs.Making.{forest_more}
use Rattle.data_tree.specs.store_api.Content.{Id, Content}
use Rattle.check_walk.specs.Walks.{IsNodeAt, FillsTree, FillsAll, FillsTrees}

-- a node, and what stands below it
pub tree_of : (payload depth : ℕ) (id : Id) (node : NodeText) (B : Content) (w v : List ℕ) (ids jds : List Id) → IsNodeAt payload id node B w ids → Holds payload B depth node v jds → IsTree payload B depth id (w ++ v) (ids ++ jds)
tree_of payload depth id node B w v ids jds n holds = record {
  text = n.text;
  node = node;
  below = jds;
  there = n.there;
  sized = n.sized;
  is = n.is;
  holds = subst (λ xs. Holds payload B depth node xs jds) (sym (ap (λ xs. xs ++ v) n.none)) holds;
  all = ap (λ xs. xs ++ jds) n.one;
}

-- with no byte in front
pub fills_behind : (len room : ℕ) (full : Bool) (w v : List ℕ) → w ≡ [] → FillsTree len room full v → FillsTree len room full (w ++ v)
fills_behind len room full w v none f = subst (λ xs. FillsTree len room full xs) (sym (ap (λ xs. xs ++ v) none)) f

-- a leaf
pub leaf_holds : (payload : ℕ) (B : Content) (depth : ℕ) (node : NodeText) (w : List ℕ) → node ≡ leaf w → depth_in node ≡ depth → Holds payload B depth node w []
leaf_holds payload B zero node w is level = (is, refl)
leaf_holds payload B (suc depth) node w is level = absurd (omega (arith, ap depth_in is, level))

-- an inner node
pub inner_holds : (payload : ℕ) (B : Content) (depth low : ℕ) (d : ℕ) (node : NodeText) (w : List ℕ) (children ids : List Id) → node ≡ inner d children → depth_in node ≡ depth → low + 1 ≡ depth
    → Forest (IsTree payload B low) (span payload low) children w ids → Holds payload B depth node w ids
inner_holds payload B zero low d node w children ids is level deep f = absurd (omega arith)
inner_holds payload B (suc depth) low d node w children ids is level deep f =
    let same : low ≡ depth = omega arith in
    let here : d ≡ suc depth = sym (ap depth_in is) ∙ level in
    (children, (is ∙ ap (λ k. inner k children) here, subst (λ k. Forest (IsTree payload B k) (span payload k) children w ids) same f))

-- one more full tree
pub fills_more : (len own count room : ℕ) (w v : List ℕ) → FillsAll len count room w → FillsTree own room true v → FillsAll (len + own) (count + 1) room (w ++ v)
fills_more len own count room w v all one =
    let long = length-append w v in
    let full = one.whole refl in
    record { told = omega (arith, long, all.told, one.told); whole = omega (arith, long, all.whole, full) }

-- and the last one
pub fills_last : (len own count room : ℕ) (full : Bool) (w v : List ℕ) → FillsAll len count room w → FillsTree own room full v → FillsTrees (len + own) (count + 1) room full (w ++ v)
fills_last len own count room full w v all one =
    let long = length-append w v in
    record {
      told = omega (arith, long, all.told, one.told);
      some = omega (arith, long, one.some);
      fits = omega (arith, long, all.whole, one.fits);
      whole = λ e. let w = one.whole e in omega (arith, long, all.whole, w);
      above = λ two. let more : 1 * room ≤ count * room = mul-le-mul_right room (let le : 1 ≤ count = omega arith in le) in omega (arith, long, all.whole, one.some, more);
    }

-- the trees below a node fill its own
pub fills_node : (len count fan low room : ℕ) (full : Bool) (w : List ℕ) → fan * low ≡ room → count ≤ fan → (full ≡ true → count ≡ fan) → FillsTrees len count low full w → FillsTree len room full w
fills_node len count fan low room full w all few whole f =
    let most : count * low ≤ fan * low = mul-le-mul_right low few in
    record {
      told = f.told;
      some = f.some;
      fits = omega (arith, f.fits, most, all);
      whole = λ e. f.whole e ∙ (ap (λ n. n * low) (whole e) ∙ all);
    }

-- one more tree behind full ones
pub forest_next : (payload depth room len own count : ℕ) (full : Bool) (children : List Id) (child : Id) (B : Content) (w v : List ℕ) (ids jds : List Id) → room ≡ span payload depth → length children ≡ count
    → FillsAll len count room w → FillsTree own room full v
    → Forest (IsTree payload B depth) (span payload depth) children w ids → IsTree payload B depth child v jds → Forest (IsTree payload B depth) (span payload depth) (children ++ child ∷ []) (w ++ v) (ids ++ jds)
forest_next payload depth room len own count full children child B w v ids jds sized so_many all one f tree =
    forest_more (IsTree payload B depth) (span payload depth) children w v ids jds child f (all.whole ∙ (ap (λ n. n * room) (sym so_many) ∙ ap (λ n. length children * n) sized)) one.some (omega (arith, one.fits, sized)) tree

-- ---- blobs

pub leaf_blob : (payload : ℕ) (id : Id) (node : NodeText) (bytes : List ℕ) (B : Content) (w v : List ℕ) (ids jds : List Id) → NoDoubles (ids ++ jds) → node ≡ leaf v → jds ≡ [] → IsDepth payload 0 (length v)
    → IsNodeAt payload id node B w ids → BlobTree payload B id (w ++ v) (ids ++ jds)
leaf_blob payload id node bytes B w v ids jds alone is none fits n = record {
  depth = 0;
  deep = subst (λ xs. IsDepth payload 0 (length xs)) (sym (ap (λ xs. xs ++ v) n.none)) fits;
  tree = tree_of payload 0 id node B w v ids jds n (is, none);
  alone = alone;
}

pub inner_blob : (payload low d room len count : ℕ) (id : Id) (node : NodeText) (children : List Id) (B : Content) (w v : List ℕ) (ids jds : List Id) → NoDoubles (ids ++ jds) → node ≡ inner d children → d ≡ low + 1 → room ≡ span payload low
    → 2 ≤ count → count ≤ fan_out payload → IsNodeAt payload id node B w ids → FillsTrees len count room false v → Forest (IsTree payload B low) (span payload low) children v jds → BlobTree payload B id (w ++ v) (ids ++ jds)
inner_blob payload low d room len count id node children B w v ids jds alone is level sized two few n fills f =
    let above : room < length v = fills.above two in
    let most : count * span payload low ≤ fan_out payload * span payload low = mul-le-mul_right (span payload low) few in
    let fits : length v ≤ count * span payload low = subst (λ r. length v ≤ count * r) sized fills.fits in
    let deep : IsDepth payload (suc low) (length v) = (omega (arith, above, sized), omega (arith, most, fits)) in
    let here : d ≡ suc low = omega (arith, level) in
    record {
      depth = suc low;
      deep = subst (λ xs. IsDepth payload (suc low) (length xs)) (sym (ap (λ xs. xs ++ v) n.none)) deep;
      tree = tree_of payload (suc low) id node B w v ids jds n (children, (is ∙ ap (λ k. inner k children) here, f));
      alone = alone;
    }

-- where a tree has to be full
pub never : {X : Type 0} (full : Bool) → full ≡ false → full ≡ true → X
never full empty is = let bad : true ≡ false = sym is ∙ empty in absurd (cc)

pub whole_leaf : (full : Bool) (room len n : ℕ) → ((full ≡ true) × (room ≤ len)) ⊎ (full ≡ false) → len ≡ n → n ≤ room → full ≡ true → n ≡ room
whole_leaf full room len n (inl there) told fits e = omega (arith, there.1, told, fits)
whole_leaf full room len n (inr empty) told fits e = never full empty e

pub full_count : (count len size payload : ℕ) → count ≤ fan_out payload → len ≡ count → size ≡ payload → (size - 8) / 16 ≤ len → count ≡ fan_out payload
full_count count len size payload few told sized least =
    let fan : (size - 8) / 16 ≡ fan_out payload = ap fan_out sized in
    omega (arith, few, told, least, fan)
