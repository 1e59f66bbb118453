-- Trees that are cut.
use Rattle.std.proofs.Common.{◌≡◌, ◌⊎◌, ℕ, zero, suc, ◌+◌, ◌-◌, ◌*◌, ◌<◌, ◌≤◌, Bool, true, false, cond, List, [], ◌∷◌, ◌++◌, length, take, drop, refl, sym, ◌∙◌, ap, subst, inl, inr, arith, append_assoc}
use Rattle.std.specs.Prelude.{Some, None, is_some, ◌||◌, Result, Ok, Err, IfOk, OnOk}
use Rattle.std.specs.FinMap.{get}
use Rattle.std.proofs.lemmas.Bool.{cases_lt, false_from_ne_true, or_cases, or_left, or_parts}
use Rattle.std.proofs.lemmas.List.{take-append-drop, length-take, length-drop, length-append, take-append-le, drop_at, take_at}
use Rattle.std.proofs.Math.Seq.{take-append-add}
use Rattle.data_tree.proofs.store_api_lemmas.Rising.{same_id_is}
use Rattle.block_id.proofs.Options.{none_is}
use Rattle.block_id.specs.Contents.{resized}
use Rattle.block_id.proofs.Contents.{resized_within}
use Rattle.data_tree.specs.data_nodes.Layout.{NodeText, leaf, inner, IsNode}
use Rattle.data_tree.specs.store_api.declared.tx.Tx.{Tx}
use Rattle.data_tree.specs.store_api.Content.{Id, Content, Changes, same_id}
use Rattle.data_tree.specs.store_api.Holdings.{Holdings, Stays, has_id}
use Rattle.data_tree.specs.Trees.{IsTree, Holds, Forest, span, IsDepth, NoDoubles, Replaces}
use Rattle.data_tree.specs.Needs.{Sets, SetsNode, HasTree, HasTrees, KeepsShape}
use Rattle.data_tree.specs.Roots.{IsRoot, IsNewRoot}
use Rattle.data_tree.proofs.Anew.{replaces_then, then_drops}
use Rattle.data_tree.proofs.Changes.{tree_frame, trees_frame}
use Rattle.data_tree.proofs.Forests.{leaf_ids, leaf_is}
use Rattle.data_tree.proofs.Ids.{in_left, in_one, not_both, apart, apart_right, alone-parts, drops_more, drops_one, other, same_self}
use Rattle.data_tree.proofs.store_api_lemmas.Ids.{has-append}
use Rattle.data_tree.proofs.Levels.{span-grows, too_deep}
use Rattle.data_tree.specs.store_api.Txs.{tx_holdings}
use Rattle.data_tree.proofs.Making.{alone-join, forest_more, trees_there}
use Rattle.data_tree.proofs.Puts.{was_there}
use Rattle.data_tree.proofs.Borders.{border_on, border_top, replace_part, replaces_put, holds_inner, holds_leaf}
use Rattle.data_tree.specs.Border.{OnBorder}
use Rattle.data_cuts.specs.Cutting.{OnlyBorder, IsCut, MayCut, MayCutNode, MayCutTrees}

-- a put of a block that is there adds none
pub fewer_put : {B : Type 0} (H : Holdings B) (a d : Tx B) (id q : Id) → is_some ((tx_holdings H).content a id) ≡ true → Stays H a.store d.store → (same_id q id ≡ false → get d.overlay q ≡ get a.overlay q) → is_some ((tx_holdings H).content d q) ≡ true → is_some ((tx_holdings H).content a q) ≡ true
fewer_put H a d id q there below others h = by (same_id q id) refl
  where
    by : (b : Bool) → same_id q id ≡ b → is_some ((tx_holdings H).content a q) ≡ true
    by true e = subst (λ x. is_some ((tx_holdings H).content a x) ≡ true) (sym (same_id_is q id e)) there
    by false e = was_there H a d below q (others e) h

neither : (a b r : Bool) → r ≡ (a || b) → a ≡ false → b ≡ false → r ≡ false
neither true b r e f g = absurd (cc)
neither false b r e f g = e ∙ g

-- one of the trees, with those before it and those behind it
pub record CutAt (T : Id → List ℕ → List Id → Type 0) (size k : ℕ) (children : List Id) (last : Id) (w : List ℕ) (ids : List Id) : Type 0 where
  pub w1 : List ℕ
  pub w2 : List ℕ
  pub w3 : List ℕ
  pub ids1 : List Id
  pub own : List Id
  pub ids3 : List Id
  pub before : Forest T size (take k children) w1 ids1
  pub tree : T last w2 own
  pub after : Forest T size (drop (k + 1) children) w3 ids3
  pub full : length w1 ≡ k * size
  pub whole : 0 < length w3 → length w2 ≡ size
  pub bytes : w ≡ w1 ++ (w2 ++ w3)
  pub names : ids ≡ ids1 ++ (own ++ ids3)

first_is : {x y : Id} {xs ys : List Id} → x ∷ xs ≡ y ∷ ys → (x ≡ y) × (xs ≡ ys)
first_is e = (cc, cc)

pub cut_at : (T : Id → List ℕ → List Id → Type 0) (size k : ℕ) (children : List Id) (last : Id) (w : List ℕ) (ids : List Id) → 0 < size → k < length children → drop k children ≡ last ∷ drop (k + 1) children → Forest T size children w ids → CutAt T size k children last w ids
cut_at T size k [] last w ids positive lt is f = absurd (omega arith)
cut_at T size zero (child ∷ children) last w ids positive lt is (some, (own, (rest, (first, (others, all))))) = record {
  w1 = [];
  w2 = take size w;
  w3 = drop size w;
  ids1 = [];
  own = own;
  ids3 = rest;
  before = (refl, refl);
  tree = subst (λ c. T c (take size w) own) (first_is is).0 first;
  after = subst (λ cs. Forest T size cs (drop size w) rest) (first_is is).1 others;
  full = omega arith;
  whole = λ more. omega (arith, more, length-take size w, length-drop size w);
  bytes = sym (take-append-drop size w);
  names = all;
}
cut_at T size (suc k) (child ∷ children) last w ids positive lt is (some, (own, (rest, (first, (others, all))))) =
    let next : suc k + 1 ≡ suc (k + 1) = omega arith in
    let here : drop k children ≡ last ∷ drop (k + 1) children = is ∙ ap (λ j. last ∷ drop j (child ∷ children)) next in
    let s = cut_at T size k children last (drop size w) rest positive (omega arith) here others in
    let there : 0 < length (drop size w) = forest_some k children (drop size w) rest (omega arith) others in
    let len : length (take size w) ≡ size = omega (arith, there, length-take size w, length-drop size w) in
    let more : suc k * size ≡ k * size + size = omega arith in
    record {
      w1 = take size w ++ s.w1;
      w2 = s.w2;
      w3 = s.w3;
      ids1 = own ++ s.ids1;
      own = s.own;
      ids3 = s.ids3;
      before = (
        omega (arith, length-append (take size w) s.w1, len),
        (
          own,
          (
            s.ids1,
            (
              subst (λ xs. T child xs own) (sym (take_at (take size w) s.w1 size len)) first,
              (subst (λ xs. Forest T size (take k children) xs s.ids1) (sym (drop_at (take size w) s.w1 size len)) s.before, refl),
            ),
          ),
        ),
      );
      tree = s.tree;
      after = subst (λ j. Forest T size (drop j (child ∷ children)) s.w3 s.ids3) (sym next) s.after;
      full = omega (arith, length-append (take size w) s.w1, len, s.full, more);
      whole = s.whole;
      bytes = sym (take-append-drop size w) ∙ ap (λ xs. take size w ++ xs) s.bytes ∙ sym (append_assoc (take size w) s.w1 (s.w2 ++ s.w3));
      names = all ∙ ap (λ xs. own ++ xs) s.names ∙ sym (append_assoc own s.ids1 (s.own ++ s.ids3));
    }
  where
    forest_some : (j : ℕ) (cs : List Id) (v : List ℕ) (jds : List Id) → j < length cs → Forest T size cs v jds → 0 < length v
    forest_some j [] v jds lt f = absurd (omega arith)
    forest_some j (c ∷ cs) v jds lt f = f.0

-- n bytes end in this tree
pub cut_fits : {T : Id → List ℕ → List Id → Type 0} {size k : ℕ} {children : List Id} {last : Id} {w : List ℕ} {ids : List Id} (n m : ℕ) → n ≡ k * size + m → m ≤ size → n ≤ length w → (s : CutAt T size k children last w ids) → m ≤ length s.w2
cut_fits {size = size} {w = w} n m is small le s =
    let long : length w ≡ length s.w1 + (length s.w2 + length s.w3) = ap length s.bytes ∙ length-append s.w1 (s.w2 ++ s.w3) ∙ ap (λ l. length s.w1 + l) (length-append s.w2 s.w3) in
    elim (cases_lt 0 (length s.w3)) [
      | inl some ↦ omega (arith, s.whole some, small)
      | inr none ↦ omega (arith, long, s.full, is, le, none)
    ]

pub cut_bytes : {T : Id → List ℕ → List Id → Type 0} {size k : ℕ} {children : List Id} {last : Id} {w : List ℕ} {ids : List Id} (n m : ℕ) → n ≡ k * size + m → (s : CutAt T size k children last w ids) → m ≤ length s.w2 → take n w ≡ s.w1 ++ take m s.w2
cut_bytes {w = w} n m is s fits =
    let place : n ≡ length s.w1 + m = omega (arith, is, s.full) in
    ap (take n) s.bytes ∙ ap (λ j. take j (s.w1 ++ (s.w2 ++ s.w3))) place ∙ take-append-add s.w1 (s.w2 ++ s.w3) m ∙ ap (λ xs. s.w1 ++ xs) (take-append-le m s.w2 s.w3 fits)

-- some were dropped, and then new ids came in place of others
pub drops_then : (A C D : Content) (xs ys new : List Id) → Replaces A C xs [] → Replaces C D ys new → Replaces A D (ys ++ xs) new
drops_then A C D xs ys new one two = record {
  kept = λ q o n. let none = not_both ys xs q o in two.kept q none.0 n ∙ one.kept q none.1 refl;
  gone = λ q o n. elim (in_one ys xs q o) [
    | inl first ↦ two.gone q first n
    | inr second ↦ two.kept q second.0 n ∙ one.gone q second.1 refl
  ];
  came = λ q n. elim (two.came q n) [
    | inl was ↦ inl (in_left ys xs q was)
    | inr none ↦ by q none (has_id (ys ++ xs) q) refl
  ];
}
  where
    by : (q : Id) → C q ≡ None → (b : Bool) → has_id (ys ++ xs) q ≡ b → (has_id (ys ++ xs) q ≡ true) ⊎ (A q ≡ None)
    by q none true e = inl e
    by q none false e = inr (sym (one.kept q (not_both ys xs q e).1 refl) ∙ none)

-- an id of another tree isn't one that came in place of old ones
pub not_new : (A B : Content) (old new : List Id) (q : Id) → Replaces A B old new → is_some (A q) ≡ true → has_id old q ≡ false → has_id new q ≡ false
not_new A B old new q r there o = false_from_ne_true (has_id new q) (λ h. elim (r.came q h) [ inl was ↦ let bad : false ≡ true = sym o ∙ was in cc | inr none ↦ none_is (A q) none there ])

pub cut_since : {S : Type 0} {H : Holdings S} {a b c : S} {depth : ℕ} {id : Id} {w : List ℕ} {old : List Id} → Stays H a b → H.told a ≡ true → IsCut H b c depth id w old → IsCut H a c depth id w old
cut_since {H = H} {a = a} {b = b} {c = c} {old = old} stays told r =
    let path : H.content b ≡ H.content a = λ i q. stays.content told q i in
    record { ids = r.ids; tree = r.tree; alone = r.alone; replaces = subst (λ A. Replaces A (H.content c) old r.ids) path r.replaces }

-- a leaf that was cut
pub cut_leaf_is : {S : Type 0} {H : Holdings S} {a b : S} {depth n : ℕ} {id : Id} (node : NodeText) (old : List ℕ) → leaf old ≡ node → (m : MayCutNode H a depth id node n) → KeepsShape H a b → SetsNode H a b id (leaf (take n old)) → IsCut H a b depth id (take n m.below.bytes) (id ∷ m.below.ids)
cut_leaf_is {H = H} {a = a} {b = b} {depth = depth} {n = n} {id = id} node old at m keeps (text, (is, (sized, sets))) =
    let A = H.content a in
    let B = H.content b in
    let P = H.payload a in
    let same : old ≡ m.below.bytes = leaf_is P A depth node m.below.bytes old m.below.ids m.below.holds at in
    let none : m.below.ids ≡ [] = leaf_ids P A depth node m.below.bytes old m.below.ids m.below.holds at in
    let holds : Holds P B depth (leaf (take n old)) (take n old) m.below.ids = holds_leaf P A B depth node m.below.bytes old (take n old) m.below.ids m.below.holds at in
    record {
      ids = id ∷ m.below.ids;
      tree = record {
        text = text;
        node = leaf (take n old);
        below = m.below.ids;
        there = sets id ∙ ap (λ x. cond x (Some text) (A id)) (same_self id);
        sized = sized ∙ sym keeps.payload;
        is = is;
        holds = subst (λ p. Holds p B depth (leaf (take n old)) (take n m.below.bytes) m.below.ids) (sym keeps.payload) (subst (λ xs. Holds P B depth (leaf (take n old)) (take n xs) m.below.ids) same holds);
        all = refl;
      };
      alone = (m.apart, m.below.alone);
      replaces = replaces_put A B id text (id ∷ m.below.ids) sets (or_left (same_id id id) (has_id m.below.ids id) (same_self id));
    }

pub put_border : (B : Content) (depth : ℕ) (id : Id) (old new : Changes) → ((q : Id) → same_id q id ≡ false → get new q ≡ get old q) → OnlyBorder B depth id old new
put_border B depth id old new others q there = by (same_id q id) refl
  where
    by : (b : Bool) → same_id q id ≡ b → (get new q ≡ get old q) ⊎ OnBorder B depth id q
    by true e = inr (border_top B depth id q (same_id_is q id e))
    by false e = inl (others q e)

-- the trees behind the last one that stays, after the node above them was put
abbrev pub cut_behind : {S : Type 0} {H : Holdings S} {a b : S} {low k n : ℕ} {id last : Id} {children : List Id} {node : NodeText} (t : MayCutTrees H a low id children n) → CutAt (IsTree (H.payload a) (H.content a) low) (span (H.payload a) low) k children last t.trees.bytes t.trees.ids
    → SetsNode H a b id node → KeepsShape H a b → HasTrees H b low (drop (k + 1) children)
cut_behind {H = H} {a = a} {b = b} {low = low} {k = k} {id = id} {children = children} t s (text, (is, (sized, sets))) keeps =
    let both : NoDoubles (s.ids1 ++ (s.own ++ s.ids3)) = subst NoDoubles s.names t.trees.alone in
    let none : has_id s.ids3 id ≡ false = (not_both s.own s.ids3 id (not_both s.ids1 (s.own ++ s.ids3) id (subst (λ xs. has_id xs id ≡ false) s.names t.apart)).1).1 in
    record {
      bytes = s.w3;
      ids = s.ids3;
      told = keeps.told ∙ t.trees.told;
      trees = subst (λ p. Forest (IsTree p (H.content b) low) (span p low) (drop (k + 1) children) s.w3 s.ids3) (sym keeps.payload)
          (trees_frame (H.payload a) (H.content a) (H.content b) low (span (H.payload a) low) (drop (k + 1) children) s.w3 s.ids3 (other (H.content a) (H.content b) id (Some text) s.ids3 sets none) s.after);
      alone = (alone-parts s.own s.ids3 (alone-parts s.ids1 (s.own ++ s.ids3) both).1).1;
    }

-- the last one that stays, after those behind it were dropped
abbrev pub cut_last : {S : Type 0} {H : Holdings S} {a b c : S} {low k n : ℕ} {id last : Id} {children : List Id} {node : NodeText} (m : ℕ) (t : MayCutTrees H a low id children n)
    → (s : CutAt (IsTree (H.payload a) (H.content a) low) (span (H.payload a) low) k children last t.trees.bytes t.trees.ids) → SetsNode H a b id node → KeepsShape H a b → KeepsShape H b c → Replaces (H.content b) (H.content c) s.ids3 [] → m ≤ length s.w2 → MayCut H c low last m
cut_last {H = H} {a = a} {b = b} {c = c} {low = low} {id = id} {last = last} m t s (text, (is, (sized, sets))) ab bc dropped fits =
    let both : NoDoubles (s.ids1 ++ (s.own ++ s.ids3)) = subst NoDoubles s.names t.trees.alone in
    let behind : NoDoubles (s.own ++ s.ids3) = (alone-parts s.ids1 (s.own ++ s.ids3) both).1 in
    let none : has_id s.own id ≡ false = (not_both s.own s.ids3 id (not_both s.ids1 (s.own ++ s.ids3) id (subst (λ xs. has_id xs id ≡ false) s.names t.apart)).1).0 in
    let same : (q : Id) → has_id s.own q ≡ true → H.content c q ≡ H.content a q = λ q h. dropped.kept q (apart s.own s.ids3 behind q h) refl ∙ other (H.content a) (H.content b) id (Some text) s.own sets none q h in
    let payload : H.payload a ≡ H.payload c = sym (bc.payload ∙ ab.payload) in
    record {
      tree = record {
        bytes = s.w2;
        ids = s.own;
        told = bc.told ∙ ab.told ∙ t.trees.told;
        tree = subst (λ p. IsTree p (H.content c) low last s.w2 s.own) payload (tree_frame (H.payload a) (H.content a) (H.content c) low last s.w2 s.own same s.tree);
        alone = (alone-parts s.own s.ids3 behind).0;
      };
      fits = fits;
    }

-- a node that was put with fewer children, of which the last was cut
pub cut_inner_is : {S : Type 0} {H : Holdings S} {a b c d : S} {low k n : ℕ} {id last : Id} {children : List Id} (depth m : ℕ) (kept : List Id) (t : MayCutTrees H a low id children n)
    → (s : CutAt (IsTree (H.payload a) (H.content a) low) (span (H.payload a) low) k children last t.trees.bytes t.trees.ids) → (put : SetsNode H a b id (inner depth kept)) → KeepsShape H a b → KeepsShape H b c → KeepsShape H c d → Replaces (H.content b) (H.content c) s.ids3 []
    → IsCut H c d low last (take m s.w2) s.own → kept ≡ take k children ++ last ∷ [] → k < length children → low + 1 ≡ depth → n ≡ k * span (H.payload a) low + m → 0 < m → m ≤ span (H.payload a) low → m ≤ length s.w2 → IsCut H a d depth id (take n t.trees.bytes) (id ∷ t.trees.ids) × (H.content d id ≡ Some put.0)
cut_inner_is {H = H} {a = a} {b = b} {c = c} {d = d} {low = low} {k = k} {n = n} {id = id} {last = last} {children = children} depth m kept t s (text, (is, (sized, sets))) ab bc cd dropped cut listed lt deep place some small fits =
    let A = H.content a in
    let B = H.content b in
    let C = H.content c in
    let D = H.content d in
    let P = H.payload d in
    let size = span P low in
    let old = s.own ++ s.ids3 in
    let payload : H.payload a ≡ P = sym (cd.payload ∙ bc.payload ∙ ab.payload) in
    let both : NoDoubles (s.ids1 ++ old) = subst NoDoubles s.names t.trees.alone in
    let none = not_both s.ids1 old id (subst (λ xs. has_id xs id ≡ false) s.names t.apart) in
    let later : Replaces B D old cut.ids = drops_then B C D s.ids3 s.own cut.ids dropped cut.replaces in
    let there : B id ≡ Some text = sets id ∙ ap (λ x. cond x (Some text) (A id)) (same_self id) in
    let top : has_id cut.ids id ≡ false = not_new B D old cut.ids id later (ap is_some there) none.1 in
    let still : D id ≡ Some text = later.kept id none.1 top ∙ there in
    let in_b : (q : Id) → has_id s.ids1 q ≡ true → B q ≡ A q = other A B id (Some text) s.ids1 sets none.0 in
    let free : (q : Id) → has_id s.ids1 q ≡ true → has_id cut.ids q ≡ false = λ q h. not_new B D old cut.ids q later (ap is_some (in_b q h) ∙ trees_there (H.payload a) A low (span (H.payload a) low) (take k children) s.w1 s.ids1 s.before q h) (apart s.ids1 old both q h) in
    let same : (q : Id) → has_id s.ids1 q ≡ true → D q ≡ A q = λ q h. later.kept q (apart s.ids1 old both q h) (free q h) ∙ in_b q h in
    let front : Forest (IsTree P D low) size (take k children) s.w1 s.ids1 = trees_frame P A D low size (take k children) s.w1 s.ids1 same (subst (λ p. Forest (IsTree p A low) (span p low) (take k children) s.w1 s.ids1) payload s.before) in
    let room : span (H.payload a) low ≡ size = ap (λ p. span p low) payload in
    let count : length (take k children) ≡ k = omega (arith, length-take k children, lt) in
    let long : length (take m s.w2) ≡ m = omega (arith, length-take m s.w2, fits) in
    let all : Forest (IsTree P D low) size (take k children ++ last ∷ []) (s.w1 ++ take m s.w2) (s.ids1 ++ cut.ids) =
    forest_more (IsTree P D low) size (take k children) s.w1 (take m s.w2) s.ids1 cut.ids last front (s.full ∙ ap (λ j. k * j) room ∙ ap (λ j. j * size) (sym count)) (omega (arith, long, some)) (omega (arith, long, small, room)) cut.tree in
    let bytes : s.w1 ++ take m s.w2 ≡ take n t.trees.bytes = sym (cut_bytes n m place s fits) in
    let trees : Forest (IsTree P D low) size kept (take n t.trees.bytes) (s.ids1 ++ cut.ids) = subst (λ cs. Forest (IsTree P D low) size cs (take n t.trees.bytes) (s.ids1 ++ cut.ids)) (sym listed) (subst (λ w. Forest (IsTree P D low) size (take k children ++ last ∷ []) w (s.ids1 ++ cut.ids)) bytes all) in
    let outside : has_id (s.ids1 ++ cut.ids) id ≡ false = neither (has_id s.ids1 id) (has_id cut.ids id) (has_id (s.ids1 ++ cut.ids) id) (has-append s.ids1 cut.ids id) none.0 top in
    let one : Replaces A B (id ∷ (s.ids1 ++ old)) (id ∷ (s.ids1 ++ old)) = replaces_put A B id text (id ∷ (s.ids1 ++ old)) sets (or_left (same_id id id) (has_id (s.ids1 ++ old) id) (same_self id)) in
    let two : Replaces B D (id ∷ (s.ids1 ++ old)) (id ∷ (s.ids1 ++ cut.ids)) = replace_part B D (id ∷ []) (s.ids1 ++ old) (s.ids1 ++ cut.ids) (replace_part B D s.ids1 old cut.ids later) in
    let whole : Replaces A D (id ∷ (s.ids1 ++ old)) (id ∷ (s.ids1 ++ cut.ids)) = replaces_then A B D (id ∷ (s.ids1 ++ old)) (id ∷ (s.ids1 ++ old)) (id ∷ (s.ids1 ++ cut.ids)) one two in (
      record {
        ids = id ∷ (s.ids1 ++ cut.ids);
        tree = record {
          text = text;
          node = inner depth kept;
          below = s.ids1 ++ cut.ids;
          there = still;
          sized = sized ∙ payload;
          is = is;
          holds = holds_inner P D depth depth low (inner depth kept) (take n t.trees.bytes) kept (s.ids1 ++ cut.ids) refl refl deep trees;
          all = refl;
        };
        alone = (outside, alone-join s.ids1 cut.ids (alone-parts s.ids1 old both).0 cut.alone free);
        replaces = subst (λ xs. Replaces A D (id ∷ xs) (id ∷ (s.ids1 ++ cut.ids))) (sym s.names) whole;
      },
      still,
    )

-- what a cut of the last child leaves of the changes
pub cut_only : (C D : Content) (depth low k : ℕ) (id last : Id) (children kept : List Id) (text : List ℕ) (first mid dropped new : Changes) → D id ≡ Some text → IsNode text (inner depth kept) → kept ≡ take k children ++ last ∷ [] → low + 1 ≡ depth
    → ((q : Id) → is_some (D q) ≡ true → is_some (C q) ≡ true) → ((q : Id) → same_id q id ≡ false → get mid q ≡ get first q) → ((q : Id) → is_some (C q) ≡ true → get dropped q ≡ get mid q) → OnlyBorder D low last dropped new → OnlyBorder D depth id first new
cut_only C D zero low k id last children kept text first mid dropped new there is listed deep fewer others drops only q some = absurd (omega arith)
cut_only C D (suc depth) low k id last children kept text first mid dropped new there is listed deep fewer others drops only q some = by (only q some)
  where
    by : (get new q ≡ get dropped q) ⊎ OnBorder D low last q → (get new q ≡ get first q) ⊎ OnBorder D (suc depth) id q
    by (inr on) = let below : low ≡ depth = omega arith in inr (inr (text, (kept, (take k children, (last, (there, (is, (listed, subst (λ j. OnBorder D j last q) below on))))))))
    by (inl same) = elim (put_border D (suc depth) id first mid others q some) [
      | inl put ↦ inl (same ∙ drops q (fewer q some) ∙ put)
      | inr on ↦ inr on
    ]

-- a depth is the least with room
pub depth_least : (payload depth low n : ℕ) → 50 ≤ payload → IsDepth payload depth n → n ≤ span payload low → depth ≤ low
depth_least payload depth low n least deep fits = elim (cases_lt low depth) [
  | inl lt ↦ absurd (too_deep payload low depth n n least fits lt (omega arith) deep)
  | inr le ↦ le
]

pub room_enough : (payload depth low n : ℕ) → 50 ≤ payload → depth ≤ low → IsDepth payload depth n → n ≤ span payload low
room_enough payload depth low n least le deep =
    let e : depth + (low - depth) ≡ low = omega arith in
    let grown : span payload depth ≤ span payload low = subst (λ k. span payload depth ≤ span payload k) e (span-grows payload depth (low - depth) least) in
    omega (arith, grown, within payload depth n deep)
  where
    within : (payload depth n : ℕ) → IsDepth payload depth n → n ≤ span payload depth
    within payload zero n deep = deep
    within payload (suc depth) n deep = deep.1

replaces_names : (A B : Content) (xs ys new : List Id) → ((q : Id) → has_id ys q ≡ has_id xs q) → Replaces A B xs new → Replaces A B ys new
replaces_names A B xs ys new same r = record {
  kept = λ q o n. r.kept q (sym (same q) ∙ o) n;
  gone = λ q o n. r.gone q (sym (same q) ∙ o) n;
  came = λ q n. elim (r.came q n) [ inl was ↦ inl (same q ∙ was) | inr none ↦ inr none ];
}

swapped : (a b c : Bool) → (a || (b || c)) ≡ (b || (a || c))
swapped true true c = refl
swapped true false c = refl
swapped false true c = refl
swapped false false c = refl

same_names : (root first : Id) (below rest : List Id) (q : Id) → has_id (root ∷ ((first ∷ below) ++ rest)) q ≡ has_id ((root ∷ below) ++ (first ∷ rest)) q
same_names root first below rest q =
    ap (λ b. same_id q root || (same_id q first || b)) (has-append below rest q) ∙ ap (λ b. same_id q root || b) (swapped (same_id q first) (has_id below q) (has_id rest q)) ∙ ap (λ b. same_id q root || b) (sym (has-append below (first ∷ rest) q))

-- the first of the trees
abbrev pub lower_first : {S : Type 0} {H : Holdings S} {a : S} {low n : ℕ} {root first : Id} {children : List Id} (t : MayCutTrees H a low root children n) → CutAt (IsTree (H.payload a) (H.content a) low) (span (H.payload a) low) 0 children first t.trees.bytes t.trees.ids → HasTree H a low first
lower_first t s = record {
  bytes = s.w2;
  ids = s.own;
  told = t.trees.told;
  tree = s.tree;
  alone = (alone-parts s.own s.ids3 (alone-parts s.ids1 (s.own ++ s.ids3) (subst NoDoubles s.names t.trees.alone)).1).0;
}

-- what its ids are apart from
pub record Apart (root first : Id) (below rest : List Id) : Type 0 where
  pub top : has_id below root ≡ false
  pub own : has_id below first ≡ false
  pub roots : same_id first root ≡ false
  pub rests : has_id rest root ≡ false
  pub firsts : has_id rest first ≡ false
  pub others : (q : Id) → has_id rest q ≡ true → (has_id (root ∷ below) q ≡ false) × (same_id q first ≡ false)

differ : (xs : List Id) (x q : Id) → has_id xs x ≡ false → has_id xs q ≡ true → same_id q x ≡ false
differ xs x q none h = false_from_ne_true (same_id q x) (λ same. let bad : false ≡ true = sym none ∙ subst (λ y. has_id xs y ≡ true) (same_id_is q x same) h in cc)

pub lower_apart : {S : Type 0} {H : Holdings S} {a : S} {low n : ℕ} {root first : Id} {children : List Id} (t : MayCutTrees H a low root children n) → (s : CutAt (IsTree (H.payload a) (H.content a) low) (span (H.payload a) low) 0 children first t.trees.bytes t.trees.ids) → Apart root first s.tree.below s.ids3
lower_apart {root = root} {first = first} t s =
    let below = s.tree.below in
    let both : NoDoubles (s.own ++ s.ids3) = (alone-parts s.ids1 (s.own ++ s.ids3) (subst NoDoubles s.names t.trees.alone)).1 in
    let all : NoDoubles ((first ∷ below) ++ s.ids3) = subst (λ xs. NoDoubles (xs ++ s.ids3)) s.tree.all both in
    let away = not_both s.own s.ids3 root (not_both s.ids1 (s.own ++ s.ids3) root (subst (λ xs. has_id xs root ≡ false) s.names t.apart)).1 in
    let none = or_parts (same_id root first) (has_id below root) (subst (λ xs. has_id xs root ≡ false) s.tree.all away.0) in
    let mine = not_both below s.ids3 first all.0 in
    record {
      top = none.1;
      own = mine.0;
      roots = false_from_ne_true (same_id first root) (λ same. let bad : false ≡ true = sym none.0 ∙ (ap (λ x. same_id x first) (sym (same_id_is first root same)) ∙ same_self first) in cc);
      rests = away.1;
      firsts = mine.1;
      others = λ q h.
          let in_own = apart_right (first ∷ below) s.ids3 all q h in
          (neither (same_id q root) (has_id below q) (has_id (root ∷ below) q) refl (differ s.ids3 root q away.1 h) (or_parts (same_id q first) (has_id below q) in_own).1, (or_parts (same_id q first) (has_id below q) in_own).0);
    }

-- where the first tree was cut under the root's id, its own node is still there, and so are the trees behind it
pub lower_there : {S : Type 0} {H : Holdings S} {b c : S} {depth : ℕ} {root first : Id} {below rest : List Id} {w : List ℕ} → Apart root first below rest → IsCut H b c depth root w (root ∷ below) → is_some (H.content b first) ≡ true → is_some (H.content c first) ≡ true
lower_there {H = H} {b = b} {c = c} {root = root} {first = first} {below = below} apart r there =
    let old : has_id (root ∷ below) first ≡ false = neither (same_id first root) (has_id below first) (has_id (root ∷ below) first) refl apart.roots apart.own in
    ap is_some (r.replaces.kept first old (not_new (H.content b) (H.content c) (root ∷ below) r.ids first r.replaces there old)) ∙ there

abbrev pub lower_rest : {S : Type 0} {H : Holdings S} {a b c d : S} {low n depth : ℕ} {root first : Id} {children : List Id} {w : List ℕ} (t : MayCutTrees H a low root children n)
    → (s : CutAt (IsTree (H.payload a) (H.content a) low) (span (H.payload a) low) 0 children first t.trees.bytes t.trees.ids) → Stays H a b → KeepsShape H b c → KeepsShape H c d → IsCut H b c depth root w (root ∷ s.tree.below) → Sets (H.content c) (H.content d) first None → HasTrees H d low (drop 1 children)
lower_rest {H = H} {a = a} {b = b} {c = c} {d = d} {low = low} {root = root} {first = first} {children = children} t s stays bc cd r sets =
    let A = H.content a in
    let B = H.content b in
    let C = H.content c in
    let D = H.content d in
    let apart = lower_apart t s in
    let same : (q : Id) → has_id s.ids3 q ≡ true → D q ≡ A q = λ q h.
    let there : is_some (B q) ≡ true = ap is_some (stays.content t.trees.told q) ∙ trees_there (H.payload a) A low (span (H.payload a) low) (drop 1 children) s.w3 s.ids3 s.after q h in
    let away = apart.others q h in
    sets q ∙ ap (λ x. cond x None (C q)) away.1 ∙ r.replaces.kept q away.0 (not_new B C (root ∷ s.tree.below) r.ids q r.replaces there away.0) ∙ stays.content t.trees.told q in
    let payload : H.payload a ≡ H.payload d = sym (cd.payload ∙ bc.payload ∙ stays.payload) in
    record {
      bytes = s.w3;
      ids = s.ids3;
      told = cd.told ∙ bc.told ∙ stays.told ∙ t.trees.told;
      trees = subst (λ p. Forest (IsTree p D low) (span p low) (drop 1 children) s.w3 s.ids3) payload (trees_frame (H.payload a) A D low (span (H.payload a) low) (drop 1 children) s.w3 s.ids3 same s.after);
      alone = (alone-parts s.own s.ids3 (alone-parts s.ids1 (s.own ++ s.ids3) (subst NoDoubles s.names t.trees.alone)).1).1;
    }

-- the tree that was cut, after the rest was dropped, and its border
pub lower_is : {S : Type 0} {H : Holdings S} {a b c d e : S} {low n depth : ℕ} {root first : Id} {children : List Id} (t : MayCutTrees H a low root children n)
    → (s : CutAt (IsTree (H.payload a) (H.content a) low) (span (H.payload a) low) 0 children first t.trees.bytes t.trees.ids) → n ≤ length s.w2 → 50 ≤ H.payload a → Stays H a b → KeepsShape H b c → KeepsShape H c d → KeepsShape H d e → IsCut H b c depth root (take n s.w2) (root ∷ s.tree.below)
    → Sets (H.content c) (H.content d) first None → Replaces (H.content d) (H.content e) s.ids3 [] → IsCut H a e depth root (take n t.trees.bytes) (root ∷ t.trees.ids) × ((q : Id) → OnBorder (H.content c) depth root q → OnBorder (H.content e) depth root q)
lower_is {H = H} {a = a} {b = b} {c = c} {d = d} {e = e} {low = low} {n = n} {depth = depth} {root = root} {first = first} {children = children} t s fits least stays bc cd de r sets dropped =
    let A = H.content a in
    let B = H.content b in
    let C = H.content c in
    let E = H.content e in
    let P = H.payload e in
    let below = s.tree.below in
    let apart = lower_apart t s in
    let payload : H.payload a ≡ P = sym (de.payload ∙ cd.payload ∙ bc.payload ∙ stays.payload) in
    let path : B ≡ A = λ i q. stays.content t.trees.told q i in
    let still : (q : Id) → is_some (A q) ≡ true → has_id (root ∷ below) q ≡ false → has_id r.ids q ≡ false = λ q there o. not_new B C (root ∷ below) r.ids q r.replaces (ap is_some (stays.content t.trees.told q) ∙ there) o in
    let old : has_id (root ∷ below) first ≡ false = neither (same_id first root) (has_id below first) (has_id (root ∷ below) first) refl apart.roots apart.own in
    let not_first : has_id r.ids first ≡ false = still first (ap is_some s.tree.there) old in
    let not_rest : (q : Id) → has_id s.ids3 q ≡ true → has_id r.ids q ≡ false = λ q h. still q (trees_there (H.payload a) A low (span (H.payload a) low) (drop 1 children) s.w3 s.ids3 s.after q h) (apart.others q h).0 in
    let gone : Replaces C E (first ∷ s.ids3) [] = drops_more C (H.content d) E (first ∷ []) s.ids3 (drops_one C (H.content d) first sets) dropped in
    let away : (q : Id) → has_id (first ∷ s.ids3) q ≡ true → has_id r.ids q ≡ false = λ q h. elim (or_cases (same_id q first) (has_id s.ids3 q) h) [
      | inl same ↦ subst (λ x. has_id r.ids x ≡ false) (sym (same_id_is q first same)) not_first
      | inr rest ↦ not_rest q rest
    ] in
    let same : (q : Id) → has_id r.ids q ≡ true → E q ≡ C q = λ q h. gone.kept q (false_from_ne_true (has_id (first ∷ s.ids3) q) (λ in_rest. let bad : false ≡ true = sym (away q in_rest) ∙ h in cc)) refl in
    let bytes : take n s.w2 ≡ take n t.trees.bytes = sym (cut_bytes n n (omega arith) s fits ∙ ap (λ xs. xs ++ take n s.w2) s.before.0) in
    let ce : H.payload c ≡ P = sym (de.payload ∙ cd.payload) in
    let tree : IsTree P E depth root (take n s.w2) r.ids = subst (λ p. IsTree p E depth root (take n s.w2) r.ids) ce (tree_frame (H.payload c) C E depth root (take n s.w2) r.ids same r.tree) in
    let whole : Replaces A E ((root ∷ below) ++ (first ∷ s.ids3)) r.ids = subst (λ X. Replaces X E ((root ∷ below) ++ (first ∷ s.ids3)) r.ids) path (then_drops B C E (root ∷ below) (first ∷ s.ids3) r.ids r.replaces gone away) in
    let named : Replaces A E (root ∷ ((first ∷ below) ++ s.ids3)) r.ids = replaces_names A E ((root ∷ below) ++ (first ∷ s.ids3)) (root ∷ ((first ∷ below) ++ s.ids3)) r.ids (same_names root first below s.ids3) whole in
    let listed : (first ∷ below) ++ s.ids3 ≡ t.trees.ids = sym (s.names ∙ ap (λ xs. xs ++ (s.own ++ s.ids3)) s.before.1 ∙ ap (λ xs. xs ++ s.ids3) s.tree.all) in (
      record {
        ids = r.ids;
        tree = subst (λ w. IsTree P E depth root w r.ids) bytes tree;
        alone = r.alone;
        replaces = subst (λ xs. Replaces A E (root ∷ xs) r.ids) listed named;
      },
      λ q on. border_on P E C depth root (take n s.w2) r.ids q (subst (λ p. 50 ≤ p) payload least) tree (λ p text k cs among there is. sym (same p among)) on,
    )

-- what only drops blocks after a cut leaves of the changes
pub lower_only : {B : Type 0} (H : Holdings B) (a b c d e : Tx B) (depth : ℕ) (root : Id) → b.overlay ≡ a.overlay → Stays H c.store d.store → Stays H d.store e.store → OnlyBorder ((tx_holdings H).content c) depth root b.overlay c.overlay
    → ((q : Id) → is_some ((tx_holdings H).content d q) ≡ true → get d.overlay q ≡ get c.overlay q) → ((q : Id) → is_some ((tx_holdings H).content e q) ≡ true → get e.overlay q ≡ get d.overlay q)
    → ((q : Id) → OnBorder ((tx_holdings H).content c) depth root q → OnBorder ((tx_holdings H).content e) depth root q) → OnlyBorder ((tx_holdings H).content e) depth root a.overlay e.overlay
lower_only H a b c d e depth root same cd de only removed dropped border q there =
    let in_d = was_there H d e de q (dropped q there) there in
    let in_c = was_there H c d cd q (removed q in_d) in_d in
    elim (only q in_c) [
      | inl kept ↦ inl (dropped q there ∙ removed q in_d ∙ kept ∙ ap (λ m. get m q) same)
      | inr on ↦ inr (border q on)
    ]

-- a root that was cut
pub cut_root_is : {S : Type 0} {H : Holdings S} {a b c : S} {depth n : ℕ} {root : Id} → Stays H a b → H.told a ≡ true → (r : IsRoot H a root) → n ≤ length r.bytes → IsDepth (H.payload c) depth n → IsCut H b c depth root (take n r.bytes) (root ∷ r.tree.below) → IsNewRoot H a c root r.ids (resized r.bytes n)
cut_root_is {H = H} {a = a} {b = b} {c = c} {depth = depth} {n = n} {root = root} stays told r le deep cut =
    let is : take n r.bytes ≡ resized r.bytes n = sym (resized_within r.bytes n le) in
    let long : n ≡ length (take n r.bytes) = omega (arith, length-take n r.bytes, le) in
    let since = cut_since {H = H} {a = a} {b = b} {c = c} stays told cut in
    record {
      ids = since.ids;
      depth = depth;
      deep = subst (λ w. IsDepth (H.payload c) depth (length w)) is (subst (IsDepth (H.payload c) depth) long deep);
      tree = subst (λ w. IsTree (H.payload c) (H.content c) depth root w since.ids) is since.tree;
      alone = since.alone;
      replaces = subst (λ xs. Replaces (H.content a) (H.content c) xs since.ids) (sym r.tree.all) since.replaces;
    }

pub on_ok_if : {T E : Type 0} {P : T → Type 0} {Q : Type 0} (r : Result T E) → ((x : T) → P x → Q) → IfOk r P → OnOk r Q
on_ok_if (Ok x) f p = f x p
on_ok_if (Err e) f p = tt
