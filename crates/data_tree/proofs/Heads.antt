-- What the head of a root says of its tree.
use Rattle.std.proofs.Common.{◌≡◌, ℕ, zero, suc, ◌<◌, ◌≤◌, List, [], length, sym, ◌∙◌, ap, subst, arith}
use Rattle.std.specs.Prelude.{true, Result, Ok, OnOk}
use Rattle.block_id.specs.declared.fail.Fail.{Fail}
use Rattle.data_nodes.specs.declared.head.Head.{Head}
use Rattle.data_nodes.specs.Layout.{NodeText, inner, size_of}
use Rattle.store_api.specs.store_outcome.Meanings.{Meanings, Lawful}
use Rattle.store_api.specs.store_outcome.Outcome.{Outcome, sounded_}
use Rattle.store_api.specs.declared.tx.Tx.{Tx}
use Rattle.store_api.specs.Content.{Id, Content}
use Rattle.store_api.specs.Holdings.{Holdings, Steady, Stays}
use Rattle.store_api.specs.Txs.{tx_holdings, tx_laws, tx_meanings}
use Rattle.data_tree.specs.Needs.{HasNode, IsHeadOf}
use Rattle.data_tree.specs.Roots.{IsRoot, IsTooDeep}
use Rattle.data_tree.specs.Trees.{Holds, IsDepth, depth_in}
use Rattle.data_tree.proofs.Puts.{on_ok_of, unforged_before}

-- a node of depth 0 has all the bytes
pub lowest_len : (payload : ℕ) (B : Content) (depth : ℕ) (node : NodeText) (w : List ℕ) (below : List Id) → Holds payload B depth node w below → depth_in node ≡ 0 → size_of node ≡ length w
lowest_len payload B zero node w below h low = ap size_of h.0
lowest_len payload B (suc depth) node w below h low = let bad : suc depth ≡ 0 = sym (ap depth_in h.1.0) ∙ low in absurd (omega arith)

-- and nothing stands below it
pub lowest_ids : (payload : ℕ) (B : Content) (depth : ℕ) (node : NodeText) (w : List ℕ) (below : List Id) → Holds payload B depth node w below → depth_in node ≡ 0 → below ≡ []
lowest_ids payload B zero node w below h low = h.1
lowest_ids payload B (suc depth) node w below h low = let bad : suc depth ≡ 0 = sym (ap depth_in h.1.0) ∙ low in absurd (omega arith)

-- the head of a root's node
pub root_head : {B : Type 0} (M : Meanings B) (H : Holdings B) → Steady M H → {a b : Tx B} {id : Id} {r : Result Head Fail} → Outcome (tx_meanings M H) (HasNode (tx_holdings H) a id) a b r (λ n head. IsHeadOf head n.node)
    → Outcome (tx_meanings M H) (IsRoot (tx_holdings H) a id) a b r (λ n head. (H.told a.store ≡ true) × IsHeadOf head n.tree.node)
root_head M H steady {a = a} {id = id} o = sounded_ {N = IsRoot (tx_holdings H) a id} {R = λ n head. (H.told a.store ≡ true) × IsHeadOf head n.tree.node}
    (λ s n. record { text = n.tree.text; node = n.tree.node; told = steady.sound_told a.store s; there = n.tree.there; is = n.tree.is }) o (λ s n y h. (steady.sound_told a.store s, h))

-- a leaf isn't too deep
pub leaf_shallow : {B : Type 0} (M : Meanings B) (H : Holdings B) → Steady M H → {a b : Tx B} {id : Id} {head : Head} → Outcome (tx_meanings M H) (HasNode (tx_holdings H) a id) a b (Ok head) (λ n head. IsHeadOf head n.node)
    → head.depth ≡ 0 → M.sound a.store → M.forgeries b.store ≤ M.forgeries a.store → IsTooDeep (tx_holdings H) a id → ⊥
leaf_shallow M H steady {a = a} {id = id} {head = head} o low s few deep =
    let there : HasNode (tx_holdings H) a id = record { text = deep.text; node = inner deep.depth deep.children; told = steady.sound_told a.store s; there = deep.there; is = deep.is } in
    let level : head.depth ≡ deep.depth = (o.value there s few).0 in
    let above : 0 < deep.depth = deep.is.fits.0 in
    absurd (omega arith)

-- a node that is too deep is so while blocks are loaded
deep_at : {S : Type 0} {H : Holdings S} {a b : S} {id : Id} → Stays H a b → H.told a ≡ true → IsTooDeep H a id → IsTooDeep H b id
deep_at {id = id} stays told deep = record {
  text = deep.text;
  depth = deep.depth;
  children = deep.children;
  there = stays.content told id ∙ deep.there;
  is = deep.is;
  deeper = λ n most is. deep.deeper n most (subst (λ p. IsDepth p deep.depth n) stays.payload is);
}

-- what a later call says of a node that is too deep, told of the content before blocks were loaded
pub shallow_since : {B : Type 0} (M : Meanings B) (H : Holdings B) → Steady M H → Lawful M → {N T U : Type 0} {x : T} {P : N → T → Type 0} (a b c : Tx B) (id : Id) (r : Result U Fail)
    → Stays (tx_holdings H) a b → Outcome (tx_meanings M H) N a b (Ok x) P → (tx_meanings M H).loaded b c
    → (M.sound b.store → M.forgeries c.store ≤ M.forgeries b.store → OnOk r (IsTooDeep (tx_holdings H) b id → ⊥))
    → M.sound a.store → M.forgeries c.store ≤ M.forgeries a.store → OnOk r (IsTooDeep (tx_holdings H) a id → ⊥)
shallow_since M H steady lawful a b c id r stays o loaded later s few =
    let laws = tx_laws M H lawful in
    let before : M.forgeries b.store ≤ M.forgeries a.store = unforged_before laws a b c loaded few in
    let grown : M.forgeries a.store ≤ M.forgeries b.store = laws.forgeries_grow a b o.loaded in
    on_ok_of r (λ apart deep. apart (deep_at stays (steady.sound_told a.store s) deep)) (later (o.sound s before) (omega arith))
