-- A root whose tree was written inside its length.
use Rattle.std.proofs.Common.{◌≡◌, ℕ, ◌+◌, ◌-◌, ◌*◌, ◌/◌, ◌<◌, ◌≤◌, true, false, List, [], ◌∷◌, length, take, refl, sym, ◌∙◌, ap, subst, inl, inr, arith}
use Rattle.std.specs.Prelude.{Option, Some, None, is_some}
use Rattle.std.specs.FinMap.{get}
use Rattle.std.proofs.Math.Nat.{lt-div-mul-add}
use Rattle.block_id.specs.Contents.{pieces, resized, written}
use Rattle.block_id.proofs.Contents.{resized_within, overwritten_within}
use Rattle.data_reads.specs.data_nodes.Layout.{NodeText}
use Rattle.data_reads.specs.store_api.declared.tx.Tx.{Tx}
use Rattle.data_reads.specs.store_api.Content.{Id, SameIds, or_else}
use Rattle.data_reads.specs.store_api.Holdings.{Holdings, Stays}
use Rattle.data_reads.specs.data_tree.Trees.{IsTree, Holds, IsDepth, Replaces, depth_in}
use Rattle.data_reads.proofs.data_tree_lemmas.Forests.{root_at}
use Rattle.data_reads.specs.data_tree.Needs.{HasTree, KeepsShape}
use Rattle.data_reads.specs.data_tree.Roots.{IsRoot, IsNewRoot}
use Rattle.data_reads.specs.store_api.Txs.{tx_holdings}
use Rattle.data_reads.proofs.data_tree_lemmas.Loads.{holds-depth}
use Rattle.data_writes.proofs.Leaves.{leaf_of}
use Rattle.data_writes.proofs.Overwriting.{length-written}
use Rattle.data_writes.specs.Leaves.{OnlyLeaves}
use Rattle.data_writes.specs.Writing.{WroteTree, written_at}

pub root_depth : {S : Type 0} {H : Holdings S} {a : S} {id : Id} (node : NodeText) (depth : ℕ) → (n : IsRoot H a id) → node ≡ n.tree.node → depth_in node ≡ depth → n.depth ≡ depth
root_depth {H = H} {a = a} node depth n is level = sym (holds-depth (H.payload a) (H.content a) n.depth n.tree.node n.bytes n.tree.below n.tree.holds) ∙ ap depth_in (sym is) ∙ level

-- the tree of a root
abbrev pub root_tree : {S : Type 0} {H : Holdings S} {a : S} {id : Id} (depth : ℕ) → H.told a ≡ true → (n : IsRoot H a id) → n.depth ≡ depth → HasTree H a depth id
root_tree {H = H} {a = a} depth told n same = record {
  bytes = n.bytes;
  ids = n.ids;
  told = told;
  tree = record {
    text = n.tree.text;
    node = n.tree.node;
    below = n.tree.below;
    there = n.tree.there;
    sized = n.tree.sized;
    is = n.tree.is;
    holds = subst (λ d. Holds (H.payload a) (H.content a) d n.tree.node n.bytes n.tree.below) same n.tree.holds;
    all = n.tree.all;
  };
  alone = n.alone;
}

-- a new root, told of the content before blocks were loaded
pub new_since : {S : Type 0} {H : Holdings S} {a b c : S} {id : Id} {old : List Id} {w : List ℕ} → Stays H a b → H.told a ≡ true → IsNewRoot H b c id old w → IsNewRoot H a c id old w
new_since {H = H} {a = a} {b = b} {c = c} {old = old} stays told r =
    let path : H.content b ≡ H.content a = λ i id. stays.content told id i in
    record { ids = r.ids; depth = r.depth; deep = r.deep; tree = r.tree; alone = r.alone; replaces = subst (λ A. Replaces A (H.content c) old r.ids) path r.replaces }

-- a tree that has the length already
pub root_same : {S : Type 0} {H : Holdings S} {a b : S} {id : Id} {n : ℕ} → Stays H a b → H.told a ≡ true → (r : IsRoot H a id) → take n r.bytes ≡ r.bytes → n ≤ length r.bytes → IsNewRoot H a b id r.ids (resized r.bytes n)
root_same {H = H} {a = a} {b = b} {id = id} {n = n} stays told r whole le =
    let is : r.bytes ≡ resized r.bytes n = sym (resized_within r.bytes n le ∙ whole) in
    let now = root_at stays told r in
    record {
      ids = r.ids;
      depth = r.depth;
      deep = subst (λ w. IsDepth (H.payload b) r.depth (length w)) is now.deep;
      tree = subst (λ w. IsTree (H.payload b) (H.content b) r.depth id w r.ids) is now.tree;
      alone = r.alone;
      replaces = record { kept = λ q o k. stays.content told q; gone = λ q o k. let bad : true ≡ false = sym o ∙ k in absurd (cc); came = λ q h. inl h };
    }

-- no bytes change nothing
pub root_kept : {S : Type 0} {H : Holdings S} {a : S} {id : Id} (r : IsRoot H a id) (from : ℕ) (bytes : List ℕ) → length bytes ≡ 0 → IsNewRoot H a a id r.ids (written r.bytes from bytes)
root_kept r from [] none = record {
  ids = r.ids;
  depth = r.depth;
  deep = r.deep;
  tree = r.tree;
  alone = r.alone;
  replaces = record { kept = λ q o k. refl; gone = λ q o k. let bad : true ≡ false = sym o ∙ k in absurd (cc); came = λ q h. inl h };
}
root_kept r from (b ∷ bytes) none = absurd (omega (arith, none))

written_is : (from : ℕ) (piece w : List ℕ) → 0 < length piece → from ≤ length w → written_at from piece w ≡ written w from piece
written_is from [] w some le = absurd (omega arith)
written_is from (byte ∷ piece) w some le = sym (overwritten_within w from (byte ∷ piece) le)

pub wrote_root : {S : Type 0} {H : Holdings S} {a b c : S} {root : Id} (depth from : ℕ) (piece : List ℕ) → Stays H a b → H.told a ≡ true → (n : IsRoot H a root) → n.depth ≡ depth → 0 < length piece → from + length piece ≤ length n.bytes → KeepsShape H b c
    → WroteTree H b c depth root (written_at from piece n.bytes) n.ids → IsNewRoot H a c root n.ids (written n.bytes from piece)
wrote_root {H = H} {a = a} {b = b} {c = c} {root = root} depth from piece stays told n same some fits keeps wrote =
    let is = written_is from piece n.bytes some (omega arith) in
    let long : length n.bytes ≡ length (written n.bytes from piece) = sym (length-written from piece n.bytes (λ s. fits)) ∙ ap length is in
    let payload : H.payload a ≡ H.payload c = sym (keeps.payload ∙ stays.payload) in
    record {
      ids = n.ids;
      depth = depth;
      deep = subst (λ p. IsDepth p depth (length (written n.bytes from piece))) payload (subst (λ l. IsDepth (H.payload a) depth l) long (subst (λ d. IsDepth (H.payload a) d (length n.bytes)) same n.deep));
      tree = subst (λ w. IsTree (H.payload c) (H.content c) depth root w n.ids) is wrote.tree;
      alone = n.alone;
      replaces = record {
        kept = λ q o k. wrote.kept q o ∙ stays.content told q;
        gone = λ q o k. let bad : true ≡ false = sym o ∙ k in absurd (cc);
        came = λ q h. inl h;
      };
    }

pub enough : (n l : ℕ) → 0 < l → n ≤ pieces n l * l
enough n l some = let most : n + (l - 1) < (n + (l - 1)) / l * l + l = lt-div-mul-add some in omega (arith, most)

same_some : (o p : Option (Option (List ℕ))) (x y : Option (List ℕ)) → o ≡ p → is_some x ≡ is_some y → is_some (or_else o x) ≡ is_some (or_else p y)
same_some o None x y e f = ap (λ k. is_some (or_else k x)) e ∙ f
same_some o (Some change) x y e f = ap (λ k. is_some (or_else k x)) e

-- where only leaves changed and none went, the ids are the same
pub ids_same : {B : Type 0} (H : Holdings B) (a c : Tx B) (root : Id) (from n : ℕ) → 50 ≤ H.payload a.store → (r : IsRoot (tx_holdings H) a root) → from + n ≤ length r.bytes → Stays H a.store c.store
    → ((q : Id) → is_some ((tx_holdings H).content a q) ≡ true → is_some ((tx_holdings H).content c q) ≡ true) → OnlyLeaves (H.payload a.store) ((tx_holdings H).content a) r.depth root from n a.overlay c.overlay
    → SameIds ((tx_holdings H).content a) ((tx_holdings H).content c)
ids_same H a c root from n least r fits below there only q = elim (only q) [
  | inl same ↦ same_some (get c.overlay q) (get a.overlay q) (H.content c.store q) (H.content a.store q) same (below.ids q)
  | inr hit ↦
      let leaf = leaf_of (H.payload a.store) ((tx_holdings H).content a) ((tx_holdings H).content a) r.depth root r.bytes r.ids hit.0 q least r.tree (λ p h. refl) (omega (arith, hit.1.1.0)) hit.1.1.1 in
      let was : is_some ((tx_holdings H).content a q) ≡ true = ap is_some leaf.there in
      there q was ∙ sym was
]
