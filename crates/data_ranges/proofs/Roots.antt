-- Roots of trees that grew or were written.
use Rattle.std.proofs.Common.{◌≡◌, ℕ, ◌+◌, ◌-◌, ◌<◌, ◌≤◌, ◌^◌, true, false, cond, List, [], ◌∷◌, ◌++◌, length, take, drop, refl, sym, ◌∙◌, ap, subst, inl, inr, arith, append_assoc, append-nil}
use Rattle.std.specs.Prelude.{Some, is_some, Result, Ok}
use Rattle.std.proofs.lemmas.Bool.{cases_lt, or_left}
use Rattle.std.proofs.lemmas.List.{take-append-drop, length-take, length-drop, length-append, drop_all}
use Rattle.block_id.specs.declared.fail.Fail.{Fail}
use Rattle.data_reads.specs.store_outcome.Meanings.{Meanings, Lawful}
use Rattle.data_reads.specs.store_outcome.Outcome.{Outcome, first_, then_}
use Rattle.data_reads.specs.data_nodes.declared.node.Node.{Node}
use Rattle.data_reads.specs.data_nodes.Layout.{NodeText, FitsPayload, node_of}
use Rattle.data_reads.specs.store_api.declared.tx.Tx.{Tx}
use Rattle.data_reads.specs.store_api.Content.{Id, same_id}
use Rattle.data_reads.specs.store_api.Holdings.{Holdings, Stays, has_id}
use Rattle.data_reads.specs.data_tree.declared.level.Level.{Level}
use Rattle.data_reads.specs.data_tree.Trees.{Holds, span, IsDepth, NoDoubles, Replaces, depth_in}
use Rattle.data_reads.specs.data_tree.Needs.{HasBelow, SetsNode, KeepsShape}
use Rattle.data_reads.specs.data_tree.Roots.{IsRoot, IsNewRoot}
use Rattle.data_reads.proofs.data_tree_lemmas.Ids.{same_self, other}
use Rattle.data_reads.proofs.data_tree_lemmas.Changes.{holds_frame}
use Rattle.data_reads.proofs.data_tree_lemmas.Anew.{replaces_then}
use Rattle.data_reads.proofs.data_tree_lemmas.Forests.{below_on, below_root, holds-fits}
use Rattle.data_reads.specs.store_api.Txs.{tx_holdings, tx_meanings}
use Rattle.block_id.specs.Contents.{written, zeros}
use Rattle.data_ranges.specs.Ranges.{GrowsTo}
use Rattle.data_reads.proofs.data_tree_lemmas.Borders.{replace_part, replaces_put}
use Rattle.data_growth.proofs.Growth.{off_the_new}
use Rattle.data_growth.proofs.Rising.{more_than, grown_then}
use Rattle.data_growth.specs.Growing.{Grown, MayGrow, Raised}
use Rattle.data_writes.specs.Writing.{WroteTree, written_at}

-- the root was loaded, and a call was made on what stands below its node
pub root_then : {B : Type 0} (M : Meanings B) (H0 : Holdings B) (laws : Lawful (tx_meanings M H0)) (a b d : Tx B) {root : Id} {more n : ℕ} {found : Node × Level} {U : Type 0} {r : Result U Fail} {Q : HasBelow (tx_holdings H0) b found.1.depth (node_of found.0) → U → Type 0}
    → Outcome (tx_meanings M H0) (IsRoot (tx_holdings H0) a root) a b (Ok found) (λ n found. ((tx_holdings H0).told a ≡ true) × (node_of found.0 ≡ n.tree.node)) → (stays : Stays (tx_holdings H0) a b) → (level : depth_in (node_of found.0) ≡ found.1.depth)
    → Outcome (tx_meanings M H0) (HasBelow (tx_holdings H0) b found.1.depth (node_of found.0)) b d r Q
    → Outcome (tx_meanings M H0) (GrowsTo (tx_holdings H0) a root more n) a d r
    (λ g y. (p : ((tx_holdings H0).told a ≡ true) × (node_of found.0 ≡ g.tree.tree.node)) × Q (below_on stays (below_root (node_of found.0) found.1.depth p.0 g.tree p.1 level)) y)
root_then M H0 laws a b d {root = root} {more = more} {n = n} {found = found} loaded stays level called =
    let H = tx_holdings H0 in
    let one = first_ {N = GrowsTo H a root more n} {R = λ g y. (H.told a ≡ true) × (node_of y.0 ≡ g.tree.tree.node)} (λ g. g.tree) loaded (λ g y h. h) in
    then_ laws one (λ g p. below_on stays (below_root (node_of found.0) found.1.depth p.0 g.tree p.1 level)) called (λ g p y h. (p, h))

-- a root that grew and was put
pub root_grown : {S : Type 0} {H : Holdings S} {a b c d : S} {root : Id} {node : NodeText} {w : List ℕ} (depth : ℕ) → Stays H a b → H.told a ≡ true → (n : IsRoot H a root) → IsDepth (H.payload d) depth (length w) → KeepsShape H b c → KeepsShape H c d
    → Grown H b c depth node w n.tree.below → SetsNode H c d root node → IsNewRoot H a d root n.ids w
root_grown {H = H} {a = a} {b = b} {c = c} {d = d} {root = root} {node = node} {w = w} depth stays told n deep bc cd g (text, (is, (sized, sets))) =
    let A = H.content a in
    let C = H.content c in
    let D = H.content d in
    let ab : H.content b ≡ A = λ i q. stays.content told q i in
    let one : Replaces A C n.tree.below g.ids = subst (λ X. Replaces X C n.tree.below g.ids) ab g.replaces in
    let both : NoDoubles (root ∷ n.tree.below) = subst NoDoubles n.tree.all n.alone in
    let free = off_the_new A C n.tree.below g.ids one root (ap is_some n.tree.there) both.0 in
    let grown = root ∷ g.ids in
    let whole : Replaces A D (root ∷ n.tree.below) grown = replaces_then A C D (root ∷ n.tree.below) grown grown (replace_part A C (root ∷ []) n.tree.below g.ids one) (replaces_put C D root text grown sets (or_left (same_id root root) (has_id g.ids root) (same_self root))) in
    record {
      ids = grown;
      depth = depth;
      deep = deep;
      tree = record {
        text = text;
        node = node;
        below = g.ids;
        there = sets root ∙ ap (λ x. cond x (Some text) (C root)) (same_self root);
        sized = sized ∙ sym cd.payload;
        is = is;
        holds = subst (λ p. Holds p D depth node w g.ids) (sym cd.payload) (holds_frame (H.payload c) C D depth node w g.ids (other C D root (Some text) g.ids sets free.0) g.holds);
        all = refl;
      };
      alone = (free.0, g.alone);
      replaces = subst (λ xs. Replaces A D xs grown) (sym n.tree.all) whole;
    }

-- a root whose tree was written inside its length
abbrev pub root_wrote : {S : Type 0} {H : Holdings S} {a b : S} {root : Id} {w : List ℕ} (depth : ℕ) → (n : IsRoot H a root) → n.depth ≡ depth → length n.bytes ≡ length w → KeepsShape H a b → WroteTree H a b depth root w n.ids → IsRoot H b root
root_wrote {H = H} {a = a} {b = b} {root = root} {w = w} depth n same long keeps wrote = record {
  bytes = w;
  ids = n.ids;
  depth = depth;
  small = subst (λ l. l ≤ 2 ^ 40) long n.small;
  deep = subst (λ p. IsDepth p depth (length w)) (sym keeps.payload) (subst (λ l. IsDepth (H.payload a) depth l) long (subst (λ k. IsDepth (H.payload a) k (length n.bytes)) same n.deep));
  tree = wrote.tree;
  alone = n.alone;
}

pub wrote_then : {S : Type 0} {H : Holdings S} {a b c : S} {root : Id} {w v : List ℕ} {depth : ℕ} {ids : List Id} → WroteTree H a b depth root w ids → IsNewRoot H b c root ids v → IsNewRoot H a c root ids v
wrote_then {H = H} {a = a} {b = b} {c = c} {ids = ids} wrote r = record {
  ids = r.ids;
  depth = r.depth;
  deep = r.deep;
  tree = r.tree;
  alone = r.alone;
  replaces = replaces_then (H.content a) (H.content b) (H.content c) ids ids r.ids (record { kept = λ q o n. wrote.kept q o; gone = λ q o n. let bad : true ≡ false = sym o ∙ n in absurd (cc); came = λ q n. inl n }) r.replaces;
}

-- what is written over the end: first what lies inside, then zeros up to the place and the rest behind
pub written_over : (from : ℕ) (bytes w : List ℕ) (inside : ℕ) → 0 < length bytes → length w < from + length bytes → inside ≡ length w - from
    → written_at from (take inside bytes) w ++ (zeros (from - length w) ++ drop inside bytes) ≡ written w from bytes
written_over from [] w inside some over is = absurd (omega arith)
written_over from (byte ∷ bytes) w inside some over is =
    let all = byte ∷ bytes in
    let len : length (take inside all) ≡ inside = omega (arith, length-take inside all) in
    let none : drop (from + length (take inside all)) w ≡ [] = drop_all (from + length (take inside all)) w (omega (arith, len)) in
    let end : drop (from + length all) w ≡ [] = drop_all (from + length all) w (omega arith) in
    let front : written_at from (take inside all) w ≡ take from w ++ take inside all = ap (λ xs. (take from w ++ take inside all) ++ xs) none ∙ append-nil (take from w ++ take inside all) in
    let back : ((take from w ++ zeros (from - length w)) ++ all) ++ drop (from + length all) w ≡ (take from w ++ zeros (from - length w)) ++ all = ap (λ xs. ((take from w ++ zeros (from - length w)) ++ all) ++ xs) end ∙ append-nil ((take from w ++ zeros (from - length w)) ++ all) in
    ap (λ xs. xs ++ (zeros (from - length w) ++ drop inside all)) front ∙ middle ∙ sym back
  where
    middle : (take from w ++ take inside (byte ∷ bytes)) ++ (zeros (from - length w) ++ drop inside (byte ∷ bytes)) ≡ (take from w ++ zeros (from - length w)) ++ (byte ∷ bytes)
    middle = elim (cases_lt (length w) from) [
      | inl lt ↦
          let nothing : inside ≡ 0 = omega arith in
          ap (λ k. (take from w ++ take k (byte ∷ bytes)) ++ (zeros (from - length w) ++ drop k (byte ∷ bytes))) nothing ∙ ap (λ xs. xs ++ (zeros (from - length w) ++ (byte ∷ bytes))) (append-nil (take from w)) ∙ sym (append_assoc (take from w) (zeros (from - length w)) (byte ∷ bytes))
      | inr le ↦
          let nothing : from - length w ≡ 0 = omega arith in
          ap (λ k. (take from w ++ take inside (byte ∷ bytes)) ++ (zeros k ++ drop inside (byte ∷ bytes))) nothing ∙ append_assoc (take from w) (take inside (byte ∷ bytes)) (drop inside (byte ∷ bytes)) ∙ ap (λ xs. take from w ++ xs) (take-append-drop inside (byte ∷ bytes))
          ∙ sym (ap (λ k. (take from w ++ zeros k) ++ (byte ∷ bytes)) nothing ∙ ap (λ xs. xs ++ (byte ∷ bytes)) (append-nil (take from w)))
    ]

-- the root's node grew, and then rose as far as n bytes need
pub then_raised : {S : Type 0} {H : Holdings S} {a b d e : S} {root : Id} {grown last : NodeText} {more : ℕ} (depth : ℕ) (tail rest : List ℕ) (used n : ℕ) → Stays H a b → H.told a ≡ true → (g : GrowsTo H a root (length tail) n) → g.tree.depth ≡ depth → rest ≡ drop used tail → used ≤ length tail → KeepsShape H b d
    → FitsPayload (H.payload b) grown → (used < length tail → length g.tree.bytes + used ≡ span (H.payload b) depth) → Grown H b d depth grown (g.tree.bytes ++ take used tail) g.tree.tree.below
    → ((m : MayGrow H d depth grown n (length rest)) → Raised H d e last (m.bytes ++ rest) m.ids × (more ≡ length rest)) → Raised H b e last (g.tree.bytes ++ tail) g.tree.tree.below × (more ≡ length rest)
then_raised {H = H} {a = a} {b = b} {d = d} {e = e} {grown = grown} {last = last} depth tail rest used n stays told g same cut fits keeps holds full one rise =
    let w = g.tree.bytes ++ take used tail in
    let long : length w ≡ length g.tree.bytes + used = omega (arith, length-append g.tree.bytes (take used tail), length-take used tail, fits) in
    let left : length rest ≡ length tail - used = ap length cut ∙ length-drop used tail in
    let deep : IsDepth (H.payload a) depth (length g.tree.bytes) = subst (λ k. IsDepth (H.payload a) k (length g.tree.bytes)) same g.tree.deep in
    let room : span (H.payload d) depth ≡ span (H.payload b) depth = ap (λ p. span p depth) keeps.payload in
    let payload : H.payload a ≡ H.payload d = sym (keeps.payload ∙ stays.payload) in
    let next : MayGrow H d depth grown n (length rest) = record {
      bytes = w;
      ids = one.ids;
      holds = one.holds;
      alone = one.alone;
      fits = holds-fits (H.payload d) (H.content d) depth grown w one.ids one.holds (subst (λ p. FitsPayload p grown) (sym keeps.payload) holds);
      full = λ some. long ∙ full (omega (arith, some, left)) ∙ sym room;
      sum = omega (arith, long, left, fits, g.sum);
      more = λ low is. subst (λ p. span p low < n) payload (more_than (H.payload a) depth (length g.tree.bytes) n deep (omega (arith, g.sum)) low is);
    } in
    let r = rise next in
    let bytes : w ++ rest ≡ g.tree.bytes ++ tail = append_assoc g.tree.bytes (take used tail) rest ∙ ap (λ xs. g.tree.bytes ++ (take used tail ++ xs)) cut ∙ ap (λ xs. g.tree.bytes ++ xs) (take-append-drop used tail) in
    (subst (λ v. Raised H b e last v g.tree.tree.below) bytes (record { depth = r.0.depth; deep = r.0.deep; grown = grown_then {above = r.0.depth} one r.0.grown }), r.1)
