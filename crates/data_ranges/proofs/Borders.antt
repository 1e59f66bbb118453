-- What stays off the right border of a tree that was written past its end.
use Rattle.std.proofs.Common.{◌≡◌, ◌⊎◌, ℕ, ◌+◌, ◌<◌, ◌≤◌, true, List, length, refl, sym, ◌∙◌, ap, subst, inl, inr, arith}
use Rattle.std.specs.Prelude.{Some, is_some, Ok}
use Rattle.std.specs.FinMap.{get}
use Rattle.std.proofs.lemmas.Option.{same_Some}
use Rattle.data_reads.specs.store_outcome.Meanings.{Meanings, Lawful}
use Rattle.data_reads.specs.store_outcome.Outcome.{Outcome}
use Rattle.data_reads.specs.data_nodes.declared.node.Node.{Node}
use Rattle.data_reads.specs.data_nodes.Layout.{leaf, inner, IsNode, node_of}
use Rattle.data_reads.proofs.data_nodes_lemmas.Laws.{one_node}
use Rattle.data_reads.specs.store_api.declared.tx.Tx.{Tx}
use Rattle.data_reads.specs.store_api.Content.{Id, Content, Changes, or_else}
use Rattle.data_reads.specs.store_api.Holdings.{Holdings, Stays, has_id}
use Rattle.data_reads.specs.data_tree.Trees.{depth_in}
use Rattle.data_reads.specs.data_tree.Needs.{HasTree, HasBelow}
use Rattle.data_reads.specs.data_tree.Roots.{IsRoot}
use Rattle.data_reads.proofs.data_tree_lemmas.Forests.{below_on, below_root}
use Rattle.data_reads.specs.store_api.Txs.{tx_holdings, tx_meanings}
use Rattle.data_reads.proofs.data_tree_lemmas.Puts.{unforged_before}
use Rattle.data_ranges.specs.Border.{Grew}
use Rattle.data_ranges.proofs.Inside.{root_depth}
use Rattle.data_reads.proofs.data_tree_lemmas.Borders.{border_on}
use Rattle.data_reads.specs.data_tree.Border.{OnBorder, OnBorderBelow}
use Rattle.data_growth.proofs.Borders.{border_up}
use Rattle.data_writes.proofs.Leaves.{leaf_of}
use Rattle.data_writes.specs.Leaves.{OnlyLeaves, LeafAt}

-- the root was loaded, and its node grew
pub root_only : {B : Type 0} (M : Meanings B) (H0 : Holdings B) (laws : Lawful (tx_meanings M H0)) (a b d : Tx B) {L : Type 0} {root : Id} {found : Node × L} (depth : ℕ) → depth_in (node_of found.0) ≡ depth
    → Outcome (tx_meanings M H0) (IsRoot (tx_holdings H0) a root) a b (Ok found) (λ n found. ((tx_holdings H0).told a ≡ true) × (node_of found.0 ≡ n.tree.node)) → Stays (tx_holdings H0) a b → b.overlay ≡ a.overlay → (tx_meanings M H0).loaded b d
    → (HasBelow (tx_holdings H0) b depth (node_of found.0) → M.sound b.store → M.forgeries d.store ≤ M.forgeries b.store → (q : Id) → is_some ((tx_holdings H0).content b q) ≡ true → (get d.overlay q ≡ get b.overlay q) ⊎ OnBorderBelow ((tx_holdings H0).content b) depth (node_of found.0) q)
    → (r : IsRoot (tx_holdings H0) a root) → M.sound a.store → M.forgeries d.store ≤ M.forgeries a.store → (q : Id) → is_some ((tx_holdings H0).content a q) ≡ true → (get d.overlay q ≡ get a.overlay q) ⊎ OnBorder ((tx_holdings H0).content a) r.depth root q
root_only M H0 laws a b d {root = root} {found = found} depth level loaded stays overlay went only r s h q there =
    let H = tx_holdings H0 in
    let before = unforged_before laws a b d went h in
    let grown = laws.forgeries_grow a b loaded.loaded in
    let p = loaded.value r s before in
    let same = root_depth (node_of found.0) depth r p.1 level in
    let path : H.content b ≡ H.content a = λ i q. stays.content p.0 q i in
    elim (only (below_on stays (below_root (node_of found.0) depth p.0 r p.1 level)) (loaded.sound s before) (omega (arith, h, grown)) q (stays.ids q ∙ there)) [
      | inl kept ↦ inl (kept ∙ ap (λ m. get m q) overlay)
      | inr below ↦ inr (subst (λ k. OnBorder (H.content a) k root q) (sym same) (border_up (H.content a) depth root r.tree.text (node_of found.0) q r.tree.there (subst (IsNode r.tree.text) (sym p.1) r.tree.is) (subst (λ C. OnBorderBelow C depth (node_of found.0) q) path below)))
    ]

pub inner_leaf : (text : List ℕ) (d : ℕ) (children : List Id) (bytes : List ℕ) → IsNode text (inner d children) → IsNode text (leaf bytes) → ⊥
inner_leaf text d children bytes one two = let e : inner d children ≡ leaf bytes = one_node text (inner d children) (leaf bytes) one two in absurd (cc)

-- a part of a tree was written inside its length: the border is as before
pub border_back : {B : Type 0} (H0 : Holdings B) (a d : Tx B) (depth : ℕ) (root : Id) (from m : ℕ) (q : Id) → 50 ≤ H0.payload a.store → (t : HasTree (tx_holdings H0) a depth root) → (0 < m → from + m ≤ length t.bytes) → Stays H0 a.store d.store
    → OnlyLeaves (H0.payload a.store) ((tx_holdings H0).content a) depth root from m a.overlay d.overlay → OnBorder ((tx_holdings H0).content d) depth root q → OnBorder ((tx_holdings H0).content a) depth root q
border_back H0 a d depth root from m q least t fits below only on = border_on (H0.payload a.store) A D depth root t.bytes t.ids q least t.tree same on
  where
    A : Content
    A = (tx_holdings H0).content a

    D : Content
    D = (tx_holdings H0).content d

    same : (p : Id) (text : List ℕ) (k : ℕ) (children : List Id) → has_id t.ids p ≡ true → A p ≡ Some text → IsNode text (inner k children) → D p ≡ A p
    same p text k children among there is = elim (only p) [
      | inl kept ↦ ap (λ o. or_else o (H0.content d.store p)) kept ∙ ap (or_else (get a.overlay p)) (below.content t.told p)
      | inr hit ↦
          let leaf = leaf_of (H0.payload a.store) A A depth root t.bytes t.ids hit.0 p least t.tree (λ x h. refl) (let end = fits (omega (arith, hit.1.0, hit.1.1.0)) in omega (arith, hit.1.1.0, end)) hit.1.1.1 in
          let texts : text ≡ leaf.text = same_Some _ _ (sym there ∙ leaf.there) in
          absurd (inner_leaf leaf.text k children leaf.bytes (subst (λ x. IsNode x (inner k children)) texts is) leaf.is)
    ]

-- a leaf of the range that lies inside
pub range_only : (payload : ℕ) (A : Content) (depth : ℕ) (root : Id) (from m len : ℕ) (old new : Changes) (q : Id) → (0 < m → from + m ≤ len) → OnlyLeaves payload A depth root from m old new
    → (get new q ≡ get old q) ⊎ (OnBorder A depth root q ⊎ ((place : ℕ) × ((from ≤ place) × ((place < len) × LeafAt payload A depth root place q))))
range_only payload A depth root from m len old new q fits only = elim (only q) [
  | inl same ↦ inl same
  | inr hit ↦ inr (inr (hit.0, (hit.1.0, (let end = fits (omega (arith, hit.1.0, hit.1.1.0)) in omega (arith, hit.1.1.0, end), hit.1.1.1))))
]

-- and then the right border changed
pub border_only : {P Q : Type 0} (old mid new : Changes) (q : Id) → (get mid q ≡ get old q) ⊎ (P ⊎ Q) → (get new q ≡ get mid q) ⊎ P → (get new q ≡ get old q) ⊎ (P ⊎ Q)
border_only old mid new q one (inr on) = inr (inl on)
border_only old mid new q (inl same) (inl kept) = inl (kept ∙ same)
border_only old mid new q (inr found) (inl kept) = inr found

-- the same, told of the content before blocks were loaded
pub grew_since : {S : Type 0} {H : Holdings S} {a b c : S} (depth : ℕ) (root : Id) (from len : ℕ) (before old new : Changes) → Stays H a b → H.told a ≡ true → old ≡ before → Grew (H.payload b) (H.content b) (H.content c) depth root from len old new
    → Grew (H.payload a) (H.content a) (H.content c) depth root from len before new
grew_since {H = H} {a = a} {b = b} {c = c} depth root from len before old new stays told same grew =
    let path : H.content b ≡ H.content a = λ i q. stays.content told q i in
    subst (λ o. Grew (H.payload a) (H.content a) (H.content c) depth root from len o new) same (subst (λ B. Grew (H.payload a) B (H.content c) depth root from len old new) path (subst (λ p. Grew p (H.content b) (H.content c) depth root from len old new) stays.payload grew))

pub grew_nothing : {S : Type 0} {H : Holdings S} {a b : S} (payload depth : ℕ) (root : Id) (from len : ℕ) (old new : Changes) → Stays H a b → new ≡ old → Grew payload (H.content a) (H.content b) depth root from len old new
grew_nothing payload depth root from len old new stays same = record { stay = λ q h. stays.ids q ∙ h; only = λ q h. inl (ap (λ m. get m q) same) }
