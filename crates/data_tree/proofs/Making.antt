-- New trees, and those that stand beside them.
use Rattle.std.proofs.Common.{◌≡◌, ◌⊎◌, ℕ, zero, suc, ◌+◌, ◌*◌, ◌<◌, ◌≤◌, Bool, true, false, cond, List, [], ◌∷◌, ◌++◌, length, take, drop, refl, sym, ◌∙◌, ap, subst, inl, inr, arith, append_assoc, append-nil}
use Rattle.std.specs.Prelude.{Option, Some, None, is_some, ◌||◌, ◌&&◌, not}
use Rattle.std.proofs.lemmas.List.{take-append-le, drop-append-le, take_all, drop_all, length-append, length-drop}
use Rattle.std.proofs.lemmas.List.{nil_from_length}
use Rattle.store_api.proofs.Ids.{has-append}
use Rattle.data_nodes.specs.Layout.{NodeText, leaf, inner, IsNode, ids_of}
use Rattle.block_id.specs.declared.id.BlockId.{BlockId}
use Rattle.std.proofs.lemmas.List.{map_push}
use Rattle.std.proofs.lemmas.Bool.{or_cases, or_parts, false_from_ne_true}
use Rattle.block_id.specs.Fresh.{zero_id}
use Rattle.block_id.proofs.Options.{none_is}
use Rattle.store_api.specs.Content.{Id, Content, same_id}
use Rattle.store_api.specs.Holdings.{Holdings, has_id, is_free}
use Rattle.store_api.proofs.Rising.{same_id_is}
use Rattle.data_tree.specs.Trees.{IsTree, Holds, Forest, span, NoDoubles, Replaces}
use Rattle.data_tree.specs.Needs.{Sets, KeepsShape, Built, BuiltTrees, BuildRest, NewTree}
use Rattle.data_tree.proofs.Ids.{in_one, not_both, same_self, other, replaces_nothing}
use Rattle.data_tree.proofs.Changes.{holds_frame, trees_frame}

-- each id of a tree has a block
forest_there : (T : Id → List ℕ → List Id → Type 0) (E : Id → Type 0) → ((id : Id) (w : List ℕ) (ids : List Id) → T id w ids → (q : Id) → has_id ids q ≡ true → E q) → (size : ℕ) (children : List Id) (w : List ℕ) (ids : List Id)
    → Forest T size children w ids → (q : Id) → has_id ids q ≡ true → E q
forest_there T E each size [] w ids f q h = let none : has_id [] q ≡ true = subst (λ xs. has_id xs q ≡ true) f.1 h in absurd (cc)
forest_there T E each size (child ∷ children) w ids (some, (own, (rest, (first, (others, all))))) q h =
    elim (in_one own rest q (subst (λ xs. has_id xs q ≡ true) all h)) [
      | inl here ↦ each child (take size w) own first q here
      | inr later ↦ forest_there T E each size children (drop size w) rest others q later.1
    ]

pub holds_there : (payload : ℕ) (B : Content) (depth : ℕ) (node : NodeText) (w : List ℕ) (below : List Id) → Holds payload B depth node w below → (q : Id) → has_id below q ≡ true → is_some (B q) ≡ true
holds_there payload B zero node w below h q is = let none : has_id [] q ≡ true = subst (λ xs. has_id xs q ≡ true) h.1 is in absurd (cc)
holds_there payload B (suc depth) node w below (children, (is, f)) q h =
    forest_there (IsTree payload B depth) (λ q. is_some (B q) ≡ true)
    (λ id piece ids n p there. elim (or_cases (same_id p id) (has_id n.below p) (subst (λ xs. has_id xs p ≡ true) n.all there)) [
      | inl same ↦ subst (λ x. is_some (B x) ≡ true) (sym (same_id_is p id same)) (ap is_some n.there)
      | inr below ↦ holds_there payload B depth n.node piece n.below n.holds p below
    ]) (span payload depth) children w below f q h

pub tree_there : (payload : ℕ) (B : Content) (depth : ℕ) (id : Id) (w : List ℕ) (ids : List Id) → IsTree payload B depth id w ids → (q : Id) → has_id ids q ≡ true → is_some (B q) ≡ true
tree_there payload B depth id w ids n p there =
    elim (or_cases (same_id p id) (has_id n.below p) (subst (λ xs. has_id xs p ≡ true) n.all there)) [
      | inl same ↦ subst (λ x. is_some (B x) ≡ true) (sym (same_id_is p id same)) (ap is_some n.there)
      | inr below ↦ holds_there payload B depth n.node w n.below n.holds p below
    ]

pub trees_there : (payload : ℕ) (B : Content) (depth size : ℕ) (children : List Id) (w : List ℕ) (ids : List Id) → Forest (IsTree payload B depth) size children w ids → (q : Id) → has_id ids q ≡ true → is_some (B q) ≡ true
trees_there payload B depth size children w ids f = forest_there (IsTree payload B depth) (λ q. is_some (B q) ≡ true) (tree_there payload B depth) size children w ids f

-- an id without a block isn't among those of a tree
pub not_among : (B : Content) (ids : List Id) (q : Id) → ((p : Id) → has_id ids p ≡ true → is_some (B p) ≡ true) → B q ≡ None → has_id ids q ≡ false
not_among B ids q there none = false_from_ne_true (has_id ids q) (λ h. none_is (B q) none (there q h))

-- a free id has no block
pub free_none : (used : List Id) (B : Content) (id : Id) → (is_some (B id) ≡ true → has_id used id ≡ true) → is_free used id ≡ true → B id ≡ None
free_none used B id known free = none_of (B id) (λ there. never (has_id used id) (known there) free)
  where
    none_of : (o : Option (List ℕ)) → (is_some o ≡ true → ⊥) → o ≡ None
    none_of None h = refl
    none_of (Some x) h = absurd (h refl)

    never : (b : Bool) → b ≡ true → (not b && not (same_id id zero_id)) ≡ true → ⊥
    never true e h = absurd (cc)
    never false e h = absurd (cc)

-- a tree whose node was put last
pub tree_made : {S : Type 0} {H : Holdings S} {a b c : S} {depth : ℕ} {node : NodeText} {w : List ℕ} (id : Id) (text : List ℕ) → Built H a b depth node w → H.content b id ≡ None → IsNode text node → length text ≡ H.payload b
    → Sets (H.content b) (H.content c) id (Some text) → KeepsShape H b c → NewTree H a c depth id w
tree_made {H = H} {a = a} {b = b} {c = c} {depth = depth} {node = node} {w = w} id text built none is sized sets keeps =
    let apart_from : has_id built.ids id ≡ false = not_among (H.content b) built.ids id (holds_there (H.payload b) (H.content b) depth node w built.ids built.holds) none in
    let same = other (H.content b) (H.content c) id (Some text) built.ids sets apart_from in
    record {
      ids = id ∷ built.ids;
      tree = record {
        text = text;
        node = node;
        below = built.ids;
        there = sets id ∙ ap (λ b'. cond b' (Some text) (H.content b id)) (same_self id);
        sized = sized ∙ sym keeps.payload;
        is = is;
        holds = subst (λ p. Holds p (H.content c) depth node w built.ids) (sym keeps.payload) (holds_frame (H.payload b) (H.content b) (H.content c) depth node w built.ids same built.holds);
        all = refl;
      };
      alone = (apart_from, built.alone);
      came = record {
        kept = λ q o n. let parts = or_parts (same_id q id) (has_id built.ids q) n in sets q ∙ ap (λ b'. cond b' (Some text) (H.content b q)) parts.0 ∙ built.came.kept q o parts.1;
        gone = λ q o n. absurd (let no_id : has_id [] q ≡ true = o in cc);
        came = λ q h. inr (came_in q h);
      };
    }
  where
    came_in : (q : Id) → (same_id q id || has_id built.ids q) ≡ true → H.content a q ≡ None
    came_in q h = by (has_id built.ids q) refl (or_cases (same_id q id) (has_id built.ids q) h)
      where
        old : has_id built.ids q ≡ true → H.content a q ≡ None
        old e = elim (built.came.came q e) [ inl never ↦ absurd (let no_id : has_id [] q ≡ true = never in cc) | inr fresh ↦ fresh ]

        by : (b' : Bool) → has_id built.ids q ≡ b' → (same_id q id ≡ true) ⊎ (has_id built.ids q ≡ true) → H.content a q ≡ None
        by true e h = old e
        by false e (inr h) = old h
        by false e (inl h) = sym (built.came.kept q refl e) ∙ subst (λ x. H.content b x ≡ None) (sym (same_id_is q id h)) none

pub alone-join : (xs ys : List Id) → NoDoubles xs → NoDoubles ys → ((id : Id) → has_id xs id ≡ true → has_id ys id ≡ false) → NoDoubles (xs ++ ys)
alone-join [] ys one two differ = two
alone-join (x ∷ xs) ys one two differ = (
  neither (has_id xs x) (has_id ys x) (has_id (xs ++ ys) x) (has-append xs ys x) one.0 (differ x (first (same_id x x) (has_id xs x) (same_self x))),
  alone-join xs ys one.1 two (λ id h. differ id (second (same_id id x) (has_id xs id) h)),
)
  where
    neither : (a b r : Bool) → r ≡ (a || b) → a ≡ false → b ≡ false → r ≡ false
    neither true b r e f g = absurd (cc)
    neither false b r e f g = e ∙ g

    first : (a b : Bool) → a ≡ true → (a || b) ≡ true
    first true b e = refl
    first false b e = absurd (cc)

    second : (a b : Bool) → b ≡ true → (a || b) ≡ true
    second true b e = refl
    second false b e = e

-- one more tree stands behind full ones
pub forest_more : (T : Id → List ℕ → List Id → Type 0) (size : ℕ) (children : List Id) (w piece : List ℕ) (ids own : List Id) (child : Id) → Forest T size children w ids → length w ≡ length children * size
    → 0 < length piece → length piece ≤ size → T child piece own → Forest T size (children ++ child ∷ []) (w ++ piece) (ids ++ own)
forest_more T size [] w piece ids own child f full some fits tree =
    let whole : w ++ piece ≡ piece = ap (λ xs. xs ++ piece) f.0 in
    let names : ids ++ own ≡ own ++ [] = ap (λ xs. xs ++ own) f.1 ∙ sym (append-nil own) in
    let all : take size (w ++ piece) ≡ piece = ap (take size) whole ∙ take_all size piece fits in
    let none : drop size (w ++ piece) ≡ [] = ap (drop size) whole ∙ drop_all size piece fits in
    (subst (λ xs. 0 < length xs) (sym whole) some, (own, ([], (subst (λ xs. T child xs own) (sym all) tree, ((none, refl), names)))))
forest_more T size (x ∷ children) w piece ids own child (some_w, (first_ids, (rest, (first, (others, all))))) full some fits tree =
    let long : size ≤ length w = omega (arith, full) in
    let left : length (drop size w) ≡ length children * size = omega (arith, full, length-drop size w) in
    let more = forest_more T size children (drop size w) piece rest own child others left some fits tree in (
      omega (arith, length-append w piece, some_w),
      (
        first_ids,
        (
          rest ++ own,
          (
            subst (λ xs. T x xs first_ids) (sym (take-append-le size w piece long)) first,
            (
              subst (λ xs. Forest T size (children ++ child ∷ []) xs (rest ++ own)) (sym (drop-append-le size w piece long)) more,
              ap (λ xs. xs ++ own) all ∙ append_assoc first_ids rest own,
            ),
          ),
        ),
      ),
    )

-- more came, under other ids
pub comes_more : (A B C : Content) (xs ys : List Id) → Replaces A B [] xs → Replaces B C [] ys → Replaces A C [] (xs ++ ys)
comes_more A B C xs ys one two = record {
  kept = λ q o n. let parts = not_both xs ys q n in two.kept q o parts.1 ∙ one.kept q o parts.0;
  gone = λ q o n. absurd (let no_id : has_id [] q ≡ true = o in cc);
  came = λ q h. inr (came_in q (in_one xs ys q h));
}
  where
    old : (q : Id) → has_id xs q ≡ true → A q ≡ None
    old q e = elim (one.came q e) [ inl never ↦ absurd (let no_id : has_id [] q ≡ true = never in cc) | inr fresh ↦ fresh ]

    later : (q : Id) → has_id ys q ≡ true → B q ≡ None
    later q e = elim (two.came q e) [ inl never ↦ absurd (let no_id : has_id [] q ≡ true = never in cc) | inr fresh ↦ fresh ]

    came_in : (q : Id) → (has_id xs q ≡ true) ⊎ ((has_id xs q ≡ false) × (has_id ys q ≡ true)) → A q ≡ None
    came_in q (inl h) = old q h
    came_in q (inr h) = sym (one.kept q refl h.0) ∙ later q h.1

pub build_start : {S : Type 0} {H : Holdings S} {a : S} {depth : ℕ} (w : List ℕ) → BuildRest H a a depth [] w w
build_start {H = H} {a = a} w = record { done = []; ids = []; joined = refl; full = λ some. omega arith; trees = (refl, refl); alone = tt; came = replaces_nothing (H.content a) }

pub full_next : (l p n m x y : ℕ) → l ≡ n * x → p ≡ x → m ≡ n + 1 → x ≡ y → l + p ≡ m * y
full_next l p n m x y so_far full more same = subst (λ k. l + p ≡ m * k) same (subst (λ k. l + p ≡ k * x) (sym more) (omega arith))

pub build_next : {S : Type 0} {H : Holdings S} {a s t : S} {depth : ℕ} {children : List Id} {left all : List ℕ} (child : Id) (piece after : List ℕ) → (r : BuildRest H a s depth children left all) → left ≡ piece ++ after → 0 < length piece → length piece ≤ span (H.payload s) depth
    → (0 < length after → length piece ≡ span (H.payload s) depth) → KeepsShape H s t → NewTree H s t depth child piece → BuildRest H a t depth (children ++ child ∷ []) after all
build_next {H = H} {a = a} {s = s} {t = t} {depth = depth} {children = children} {left = left} {all = all} child piece after r cut some fits full keeps new =
    let sized : H.payload s ≡ H.payload t = sym keeps.payload in
    let here : length r.done ≡ length children * span (H.payload s) depth = r.full (omega (arith, ap length cut, length-append piece after, some)) in
    let fresh : (q : Id) → has_id r.ids q ≡ true → has_id new.ids q ≡ false =
    λ q h. false_from_ne_true (has_id new.ids q) (λ e. elim (new.came.came q e) [
      | inl never ↦ absurd (let no_id : has_id [] q ≡ true = never in cc)
      | inr none ↦ none_is (H.content s q) none (trees_there (H.payload s) (H.content s) depth (span (H.payload s) depth) children r.done r.ids r.trees q h)
    ]) in
    let stand = trees_frame (H.payload s) (H.content s) (H.content t) depth (span (H.payload s) depth) children r.done r.ids (λ q h. new.came.kept q refl (fresh q h)) r.trees in
    let made = subst (λ p. Forest (IsTree p (H.content t) depth) (span (H.payload s) depth) children r.done r.ids) sized stand in
    let both = forest_more (IsTree (H.payload t) (H.content t) depth) (span (H.payload s) depth) children r.done piece r.ids new.ids child made here some fits new.tree in
    record {
      done = r.done ++ piece;
      ids = r.ids ++ new.ids;
      joined = append_assoc r.done piece after ∙ ap (λ xs. r.done ++ xs) (sym cut) ∙ r.joined;
      full = λ more. length-append r.done piece ∙ full_next (length r.done) (length piece) (length children) (length (children ++ child ∷ [])) (span (H.payload s) depth) (span (H.payload t) depth) here (full more) (length-append children (child ∷ [])) (ap (λ p. span p depth) sized);
      trees = subst (λ p. Forest (IsTree (H.payload t) (H.content t) depth) (span p depth) (children ++ child ∷ []) (r.done ++ piece) (r.ids ++ new.ids)) sized both;
      alone = alone-join r.ids new.ids r.alone new.alone fresh;
      came = comes_more (H.content a) (H.content s) (H.content t) r.ids new.ids r.came new.came;
    }

pub build_done : {S : Type 0} {H : Holdings S} {a s : S} {depth : ℕ} {children : List Id} {left all : List ℕ} → length left ≡ 0 → BuildRest H a s depth children left all → BuiltTrees H a s depth children all
build_done {H = H} {a = a} {s = s} {depth = depth} {children = children} {left = left} {all = all} none r =
    let whole : r.done ≡ all = sym (append-nil r.done) ∙ ap (λ xs. r.done ++ xs) (sym (nil_from_length left none)) ∙ r.joined in
    record { ids = r.ids; trees = subst (λ w. Forest (IsTree (H.payload s) (H.content s) depth) (span (H.payload s) depth) children w r.ids) whole r.trees; alone = r.alone; came = r.came }

pub built_leaf : {S : Type 0} {H : Holdings S} {a : S} (depth : ℕ) (w bytes : List ℕ) → depth ≡ 0 → bytes ≡ w → Built H a a depth (leaf bytes) w
built_leaf {H = H} {a = a} depth w bytes low is = record {
  ids = [];
  holds = subst (λ d. Holds (H.payload a) (H.content a) d (leaf bytes) w []) (sym low) (ap leaf is, refl);
  alone = tt;
  came = replaces_nothing (H.content a);
}

pub built_inner : {S : Type 0} {H : Holdings S} {a b : S} (depth low : ℕ) (w : List ℕ) (children : List Id) → low + 1 ≡ depth → BuiltTrees H a b low children w → Built H a b depth (inner depth children) w
built_inner zero low w children deep n = absurd (omega arith)
built_inner {H = H} {b = b} (suc depth) low w children deep n =
    let level : low ≡ depth = omega arith in
    record {
      ids = n.ids;
      holds = (children, (refl, subst (λ d. Forest (IsTree (H.payload b) (H.content b) d) (span (H.payload b) d) children w n.ids) level n.trees));
      alone = n.alone;
      came = n.came;
    }

pub pushed : (children : List BlockId) (id : BlockId) (more : List BlockId) → more ≡ children ++ id ∷ [] → ids_of more ≡ ids_of children ++ id.0 ∷ []
pushed children id more is = ap ids_of is ∙ map_push (λ (x : BlockId). x.0) children id
