-- What growing leaves of the changes.
use Rattle.std.proofs.Common.{◌≡◌, ◌⊎◌, ℕ, zero, suc, ◌+◌, ◌-◌, ◌<◌, ◌≤◌, Bool, true, false, List, [], ◌∷◌, ◌++◌, length, take, drop, refl, sym, ◌∙◌, ap, subst, inl, inr, arith}
use Rattle.std.specs.Prelude.{Some, is_some, Ok}
use Rattle.std.specs.FinMap.{get}
use Rattle.std.proofs.lemmas.List.{take-append-drop}
use Rattle.data_tree.proofs.store_api_lemmas.Rising.{same_id_is}
use Rattle.data_tree.specs.store_outcome.Meanings.{Meanings, Lawful}
use Rattle.data_tree.specs.store_outcome.Outcome.{Outcome}
use Rattle.block_id.specs.declared.id.BlockId.{BlockId}
use Rattle.data_tree.specs.data_nodes.declared.node.Node.{Node}
use Rattle.data_tree.specs.data_nodes.Layout.{NodeText, inner, IsNode, ids_of, node_of}
use Rattle.data_tree.specs.store_api.declared.tx.Tx.{Tx}
use Rattle.data_tree.specs.store_api.Content.{Id, Content, Changes, same_id}
use Rattle.data_tree.specs.store_api.Holdings.{Holdings, Stays}
use Rattle.data_tree.specs.Trees.{depth_in}
use Rattle.data_tree.specs.Needs.{HasTree, HasTrees, HasBelow}
use Rattle.data_tree.proofs.Forests.{below_on, below_of}
use Rattle.data_tree.proofs.Borders.{border_top}
use Rattle.data_tree.specs.store_api.Txs.{tx_holdings, tx_meanings}
use Rattle.data_tree.proofs.Puts.{unforged_before}
use Rattle.data_tree.specs.Border.{OnBorder, OnBorderBelow, OnLastBorder}
use Rattle.data_growth.proofs.Growth.{last_id, last_alone, split_of, split_tree}

-- the border below a node is on that of the tree whose node it is
pub border_up : (B : Content) (depth : ℕ) (id : Id) (text : List ℕ) (node : NodeText) (q : Id) → B id ≡ Some text → IsNode text node → OnBorderBelow B depth node q → OnBorder B depth id q
border_up B zero id text node q there is below = absurd below
border_up B (suc depth) id text node q there is (children, (listed, (front, (last, (ends, rest))))) = inr (text, (children, (front, (last, (there, (subst (IsNode text) listed is, (ends, rest)))))))

pub border_inner : (B : Content) (depth d low : ℕ) (node : NodeText) (children : List Id) (q : Id) → inner d children ≡ node → depth_in node ≡ depth → low + 1 ≡ depth → OnLastBorder B low children q → OnBorderBelow B depth node q
border_inner B zero d low node children q is level deep last = absurd (omega arith)
border_inner B (suc depth) d low node children q is level deep last =
    let same : d ≡ suc depth = ap depth_in is ∙ level in
    let below : low ≡ depth = omega arith in
    (children, (sym is ∙ ap (λ k. inner k children) same, subst (λ k. OnLastBorder B k children q) below last))

-- what is on the border of the last of the trees
pub border_last : (B : Content) (low i : ℕ) (children : List Id) (last q : Id) → drop i children ≡ last ∷ [] → OnBorder B low last q → OnLastBorder B low children q
border_last B low i children last q is on = (take i children, (last, (sym (take-append-drop i children) ∙ ap (λ xs. take i children ++ xs) is, on)))

-- what a put, or a step that leaves it, says of an id
pub put_only : {P : Type 0} (old mid new : Changes) (id q : Id) → (same_id q id ≡ false → get new q ≡ get mid q) → (q ≡ id → P) → (get mid q ≡ get old q) ⊎ P → (get new q ≡ get old q) ⊎ P
put_only {P = P} old mid new id q others on so_far = by (same_id q id) refl so_far
  where
    by : (b : Bool) → same_id q id ≡ b → (get mid q ≡ get old q) ⊎ P → (get new q ≡ get old q) ⊎ P
    by true e so_far = inr (on (same_id_is q id e))
    by false e (inl same) = inl (others e ∙ same)
    by false e (inr found) = inr found

pub then_only : {P : Type 0} (old mid new : Changes) (q : Id) → get new q ≡ get mid q → (get mid q ≡ get old q) ⊎ P → (get new q ≡ get old q) ⊎ P
then_only old mid new q kept (inl same) = inl (kept ∙ same)
then_only old mid new q kept (inr found) = inr found

-- the last child got a node
pub put_last : {B : Type 0} (H0 : Holdings B) (a d e : Tx B) (low : ℕ) (children : List BlockId) → 0 < length children → (q : Id) → (same_id q (last_id children) ≡ false → get e.overlay q ≡ get d.overlay q)
    → (get d.overlay q ≡ get a.overlay q) ⊎ OnLastBorder ((tx_holdings H0).content a) low (ids_of children) q → (get e.overlay q ≡ get a.overlay q) ⊎ OnLastBorder ((tx_holdings H0).content a) low (ids_of children) q
put_last H0 a d e low children some q others so_far =
    let A = (tx_holdings H0).content a in
    put_only a.overlay d.overlay e.overlay (last_id children) q others
    (λ same. border_last A low (length children - 1) (ids_of children) (last_id children) q (last_alone children some).1 (border_top A low (last_id children) q same)) so_far

-- the last child was loaded, and its node grew
pub inner_only : {B : Type 0} (M : Meanings B) (H0 : Holdings B) (laws : Lawful (tx_meanings M H0)) (a b d : Tx B) {low : ℕ} (children : List BlockId) {child : Node} → 0 < length children → 50 ≤ H0.payload a.store
    → Outcome (tx_meanings M H0) (HasTree (tx_holdings H0) a low (last_id children)) a b (Ok child) (λ n node. node_of node ≡ n.tree.node) → Stays (tx_holdings H0) a b → b.overlay ≡ a.overlay → (tx_meanings M H0).loaded b d
    → (HasBelow (tx_holdings H0) b low (node_of child) → M.sound b.store → M.forgeries d.store ≤ M.forgeries b.store → (q : Id) → is_some ((tx_holdings H0).content b q) ≡ true → (get d.overlay q ≡ get b.overlay q) ⊎ OnBorderBelow ((tx_holdings H0).content b) low (node_of child) q)
    → HasTrees (tx_holdings H0) a low (ids_of children) → M.sound a.store → M.forgeries d.store ≤ M.forgeries a.store → (q : Id) → is_some ((tx_holdings H0).content a q) ≡ true → (get d.overlay q ≡ get a.overlay q) ⊎ OnLastBorder ((tx_holdings H0).content a) low (ids_of children) q
inner_only M H0 laws a b d {low = low} children {child = child} some least loaded stays overlay went only n s h q there =
    let H = tx_holdings H0 in
    let before = unforged_before laws a b d went h in
    let grown = laws.forgeries_grow a b loaded.loaded in
    let t = split_tree n (split_of {H = H} {a = a} children some least n) in
    let node = loaded.value t s before in
    let path : H.content b ≡ H.content a = λ i q. stays.content n.told q i in
    elim (only (below_on stays (below_of (node_of child) t node)) (loaded.sound s before) (omega (arith, h, grown)) q (stays.ids q ∙ there)) [
      | inl same ↦ inl (same ∙ ap (λ m. get m q) overlay)
      | inr below ↦
          let on = border_up (H.content a) low (last_id children) t.tree.text (node_of child) q t.tree.there (subst (IsNode t.tree.text) (sym node) t.tree.is) (subst (λ C. OnBorderBelow C low (node_of child) q) path below) in
          inr (border_last (H.content a) low (length children - 1) (ids_of children) (last_id children) q (last_alone children some).1 on)
    ]
