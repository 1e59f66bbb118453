-- Trees apart from the last of them, and the right border.
use Rattle.std.proofs.Common.{◌≡◌, ℕ, zero, suc, ◌+◌, ◌*◌, ◌<◌, ◌≤◌, true, false, cond, List, [], ◌∷◌, ◌++◌, length, take, drop, refl, sym, ◌∙◌, ap, subst, inl, inr, arith, append_assoc, append-nil}
use Rattle.std.specs.Prelude.{Some}
use Rattle.std.proofs.lemmas.List.{take-append-drop, length-take, length-drop, length-append, drop-append-le, drop_all, drop_at, take_at}
use Rattle.std.proofs.lemmas.Bool.{false_from_ne_true, or_left, or_right}
use Rattle.std.proofs.lemmas.Option.{same_Some}
use Rattle.store_api.proofs.Rising.{same_id_is}
use Rattle.data_nodes.specs.Layout.{NodeText, leaf, inner, IsNode}
use Rattle.store_api.specs.Content.{Id, Content, same_id}
use Rattle.store_api.specs.Holdings.{has_id}
use Rattle.data_tree.specs.Trees.{IsTree, Holds, Forest, span, depth_in, Replaces}
use Rattle.data_tree.specs.Needs.{Sets}
use Rattle.data_tree.proofs.Ids.{in_left, not_both, same_self, in_right, in_one}
use Rattle.data_nodes.proofs.Laws.{one_node}
use Rattle.data_tree.proofs.Levels.{span-some}
use Rattle.data_tree.specs.Border.{OnBorder}

pub holds_leaf : (payload : ℕ) (A B : Content) (depth : ℕ) (node : NodeText) (w old new : List ℕ) (below : List Id) → Holds payload A depth node w below → leaf old ≡ node → Holds payload B depth (leaf new) new below
holds_leaf payload A B zero node w old new below h is = (refl, h.1)
holds_leaf payload A B (suc depth) node w old new below h is = let e : leaf old ≡ inner (suc depth) h.0 = is ∙ h.1.0 in absurd (cc)

pub holds_inner : (payload : ℕ) (B : Content) (depth d low : ℕ) (node : NodeText) (w : List ℕ) (children ids : List Id) → inner d children ≡ node → depth_in node ≡ depth → low + 1 ≡ depth
    → Forest (IsTree payload B low) (span payload low) children w ids → Holds payload B depth node w ids
holds_inner payload B zero d low node w children ids is level deep f = absurd (omega arith)
holds_inner payload B (suc depth) d low node w children ids is level deep f =
    let same : d ≡ suc depth = ap depth_in is ∙ level in
    let below : low ≡ depth = omega arith in
    (children, (sym is ∙ ap (λ k. inner k children) same, subst (λ k. Forest (IsTree payload B k) (span payload k) children w ids) below f))

-- the last of the trees and those before it
pub record Split (T : Id → List ℕ → List Id → Type 0) (size : ℕ) (front : List Id) (last : Id) (w : List ℕ) (ids : List Id) : Type 0 where
  pub w1 : List ℕ
  pub w2 : List ℕ
  pub ids1 : List Id
  pub own : List Id
  pub before : Forest T size front w1 ids1
  pub tree : T last w2 own
  pub some : 0 < length w2
  pub full : length w1 ≡ length front * size
  pub bytes : w ≡ w1 ++ w2
  pub names : ids ≡ ids1 ++ own

pub one_more : (n size : ℕ) → (suc n) * size ≡ n * size + size
one_more n size = omega arith

pub forest_split : (T : Id → List ℕ → List Id → Type 0) (size i : ℕ) (children : List Id) (last : Id) (w : List ℕ) (ids : List Id) → 0 < size → i < length children → drop i children ≡ last ∷ [] → Forest T size children w ids → Split T size (take i children) last w ids
forest_split T size i [] last w ids positive lt is f = absurd (omega arith)
forest_split T size zero (child ∷ children) last w ids positive lt is (some, (own, (rest, (first, (others, all))))) =
    let both : child ∷ children ≡ last ∷ [] = is in
    let none : children ≡ [] = cc in
    let same : child ≡ last = cc in
    let f : Forest T size [] (drop size w) rest = subst (λ cs. Forest T size cs (drop size w) rest) none others in
    let whole : take size w ≡ w = sym (append-nil (take size w)) ∙ ap (λ xs. take size w ++ xs) (sym f.0) ∙ take-append-drop size w in
    record {
      w1 = [];
      w2 = w;
      ids1 = [];
      own = own;
      before = (refl, refl);
      tree = subst (λ xs. T last xs own) whole (subst (λ c. T c (take size w) own) same first);
      some = some;
      full = omega arith;
      bytes = refl;
      names = all ∙ ap (λ xs. own ++ xs) f.1 ∙ append-nil own;
    }
forest_split T size (suc i) (child ∷ children) last w ids positive lt is (some, (own, (rest, (first, (others, all))))) =
    let s = forest_split T size i children last (drop size w) rest positive (omega arith) is others in
    let len : length (take size w) ≡ size = omega (arith, s.some, ap length s.bytes, length-append s.w1 s.w2, length-take size w, length-drop size w) in
    record {
      w1 = take size w ++ s.w1;
      w2 = s.w2;
      ids1 = own ++ s.ids1;
      own = s.own;
      before = (
        omega (arith, length-append (take size w) s.w1, len),
        (
          own,
          (
            s.ids1,
            (
              subst (λ xs. T child xs own) (sym (take_at (take size w) s.w1 size len)) first,
              (subst (λ xs. Forest T size (take i children) xs s.ids1) (sym (drop_at (take size w) s.w1 size len)) s.before, refl),
            ),
          ),
        ),
      );
      tree = s.tree;
      some = s.some;
      full = omega (arith, length-append (take size w) s.w1, len, s.full, one_more (length (take i children)) size);
      bytes = sym (take-append-drop size w) ∙ ap (λ xs. take size w ++ xs) s.bytes ∙ sym (append_assoc (take size w) s.w1 s.w2);
      names = all ∙ ap (λ xs. own ++ xs) s.names ∙ sym (append_assoc own s.ids1 s.own);
    }

-- a part of the ids is replaced
pub replace_part : (A B : Content) (xs old new : List Id) → Replaces A B old new → Replaces A B (xs ++ old) (xs ++ new)
replace_part A B xs old new r = record {
  kept = λ q o n. r.kept q (not_both xs old q o).1 (not_both xs new q n).1;
  gone = λ q o n. elim (in_one xs old q o) [
    | inl first ↦ absurd (let bad : false ≡ true = sym (not_both xs new q n).0 ∙ first in cc)
    | inr second ↦ r.gone q second.1 (not_both xs new q n).1
  ];
  came = λ q n. elim (in_one xs new q n) [
    | inl first ↦ inl (in_left xs old q first)
    | inr second ↦ elim (r.came q second.1) [ inl o ↦ inl (in_right xs old q o) | inr none ↦ inr none ]
  ];
}

pub replaces_put : (A B : Content) (id : Id) (text : List ℕ) (ids : List Id) → Sets A B id (Some text) → has_id ids id ≡ true → Replaces A B ids ids
replaces_put A B id text ids sets among = record {
  kept = λ q o n. sets q ∙ ap (λ b. cond b (Some text) (A q)) (false_from_ne_true (same_id q id) (λ same. let bad : false ≡ true = sym o ∙ subst (λ x. has_id ids x ≡ true) (sym (same_id_is q id same)) among in cc));
  gone = λ q o n. let bad : true ≡ false = sym o ∙ n in absurd (cc);
  came = λ q n. inl n;
}

pub border_top : (B : Content) (depth : ℕ) (id q : Id) → q ≡ id → OnBorder B depth id q
border_top B zero id q same = same
border_top B (suc depth) id q same = inl same

-- where the inner nodes of a tree are the same in another content, its border there is its border
pub border_on : (payload : ℕ) (A D : Content) (depth : ℕ) (id : Id) (w : List ℕ) (ids : List Id) (q : Id) → 50 ≤ payload → IsTree payload A depth id w ids
    → ((p : Id) (text : List ℕ) (d : ℕ) (children : List Id) → has_id ids p ≡ true → A p ≡ Some text → IsNode text (inner d children) → D p ≡ A p) → OnBorder D depth id q → OnBorder A depth id q
border_on payload A D zero id w ids q least n same on = on
border_on payload A D (suc depth) id w ids q least n same (inl top) = inl top
border_on payload A D (suc depth) id w ids q least n same (inr (text, (children, (front, (last, (there, (is, (ends, rest)))))))) =
    let size = span payload depth in
    let node : IsNode n.text (inner (suc depth) n.holds.0) = subst (IsNode n.text) n.holds.1.0 n.is in
    let root : has_id ids id ≡ true = subst (λ xs. has_id xs id ≡ true) (sym n.all) (or_left (same_id id id) (has_id n.below id) (same_self id)) in
    let here : A id ≡ Some text = sym (same id n.text (suc depth) n.holds.0 root n.there node) ∙ there in
    let texts : n.text ≡ text = same_Some _ _ (sym n.there ∙ here) in
    let one : inner (suc depth) n.holds.0 ≡ inner (suc depth) children = one_node text (inner (suc depth) n.holds.0) (inner (suc depth) children) (subst (λ t. IsNode t (inner (suc depth) n.holds.0)) texts node) is in
    let listed : n.holds.0 ≡ front ++ last ∷ [] = (let e : n.holds.0 ≡ children = cc in e ∙ ends) in
    let f : Forest (IsTree payload A depth) size (front ++ last ∷ []) w n.below = subst (λ cs. Forest (IsTree payload A depth) size cs w n.below) listed n.holds.1.1 in
    let cut : drop (length front) (front ++ last ∷ []) ≡ last ∷ [] = drop-append-le (length front) front (last ∷ []) (omega arith) ∙ ap (λ xs. xs ++ last ∷ []) (drop_all (length front) front (omega arith)) in
    let s = forest_split (IsTree payload A depth) size (length front) (front ++ last ∷ []) last w n.below (span-some payload depth least) (one_longer front last) cut f in
    let within : (p : Id) → has_id s.own p ≡ true → has_id ids p ≡ true = λ p h. subst (λ xs. has_id xs p ≡ true) (sym n.all) (or_right (same_id p id) (has_id n.below p) (subst (λ xs. has_id xs p ≡ true) (sym s.names) (in_right s.ids1 s.own p h))) in
    inr (text, (children, (front, (last, (here, (is, (ends, border_on payload A D depth last s.w2 s.own q least s.tree (λ p t d cs h. same p t d cs (within p h)) rest)))))))
  where
    one_longer : (xs : List Id) (x : Id) → length xs < length (xs ++ x ∷ [])
    one_longer [] x = omega arith
    one_longer (y ∷ xs) x = omega (arith, one_longer xs x)
