-- A full node that moves under a new id, with new trees beside it.
use Rattle.std.proofs.Common.{◌≡◌, ℕ, zero, suc, ◌+◌, ◌-◌, ◌*◌, ◌<◌, ◌≤◌, ◌^◌, true, false, cond, List, [], ◌∷◌, ◌++◌, length, take, drop, refl, sym, ◌∙◌, ap, subst, inl, inr, arith, append_assoc, append-nil}
use Rattle.std.specs.Prelude.{Some, None, min, Result, Ok, Err, IfOk, IsErr}
use Rattle.std.proofs.lemmas.Bool.{cases_lt, or_cases, or_parts}
use Rattle.std.proofs.lemmas.List.{take-append-drop, length-append, length-take, length-drop, take_all, drop_all}
use Rattle.std.proofs.Math.Nat.{mul-le-mul_right}
use Rattle.std.proofs.Math.Pow.{pow-lt}
use Rattle.data_tree.proofs.store_api_lemmas.Rising.{same_id_is}
use Rattle.data_tree.specs.data_nodes.Layout.{NodeText, inner, fan_out}
use Rattle.data_tree.specs.store_api.Content.{Id, Content, same_id}
use Rattle.data_tree.specs.store_api.Holdings.{Holdings, has_id}
use Rattle.data_tree.specs.Trees.{IsTree, Holds, Forest, IsDepth, span, NoDoubles, Replaces}
use Rattle.data_tree.specs.Needs.{Sets, SetsNode, KeepsShape, BuiltTrees}
use Rattle.data_tree.proofs.Anew.{came_none, replaces_then}
use Rattle.data_tree.proofs.Changes.{holds_frame, tree_frame}
use Rattle.data_tree.proofs.Ids.{other, same_self}
use Rattle.data_tree.proofs.Levels.{span-some}
use Rattle.data_tree.proofs.Making.{alone-join, holds_there, tree_there, not_among}
use Rattle.data_tree.proofs.Borders.{replace_part, holds_inner}
use Rattle.data_growth.proofs.Growth.{forest_join}
use Rattle.data_growth.specs.Growing.{Grown, MayGrow, Raised}

-- of an error nothing is asked that an Ok owes
pub no_ok : {T E : Type 0} (r : Result T E) (P : T → Type 0) → IsErr r → IfOk r P
no_ok (Ok x) P is = absurd (cc)
no_ok (Err e) P is = tt

pub span-doubles : (payload depth : ℕ) → 50 ≤ payload → 2 * span payload depth ≤ fan_out payload * span payload depth
span-doubles payload depth least = let two : 2 ≤ fan_out payload = omega arith in mul-le-mul_right (span payload depth) two

span-pow : (payload depth : ℕ) → 50 ≤ payload → 2 ^ depth ≤ span payload depth
span-pow payload zero least = omega arith
span-pow payload (suc depth) least = omega (arith, span-pow payload depth least, span-doubles payload depth least)

-- a tree with room for fewer bytes than the most isn't deep
pub not_deep : (payload depth room : ℕ) → 50 ≤ payload → room ≡ span payload depth → room < 2 ^ 40 → depth ≤ 40
not_deep payload depth room least is small = elim (cases_lt 40 depth) [
  | inl lt ↦ let high : 2 ^ 40 < 2 ^ depth = pow-lt lt in absurd (omega (arith, high, span-pow payload depth least, is, small))
  | inr le ↦ le
]

pub more_than : (payload depth n m : ℕ) → IsDepth payload depth n → n ≤ m → (low : ℕ) → low + 1 ≡ depth → span payload low < m
more_than payload zero n m deep le low is = absurd (omega arith)
more_than payload (suc depth) n m deep le low is = let same : depth ≡ low = omega arith in subst (λ k. span payload k < m) same (omega (arith, deep.0, le))

pub grown_then : {S : Type 0} {H : Holdings S} {a b c : S} {depth above : ℕ} {node raised : NodeText} {w v : List ℕ} {old : List Id} → (g : Grown H a b depth node w old) → Grown H b c above raised v g.ids → Grown H a c above raised v old
grown_then {H = H} {a = a} {b = b} {c = c} {old = old} g r = record { ids = r.ids; holds = r.holds; alone = r.alone; replaces = replaces_then (H.content a) (H.content b) (H.content c) old g.ids r.ids g.replaces r.replaces }

-- one more block came
replaces_new : (A B : Content) (id : Id) (text : List ℕ) (ids : List Id) → Sets A B id (Some text) → A id ≡ None → Replaces A B ids (id ∷ ids)
replaces_new A B id text ids sets none = record {
  kept = λ q o n. sets q ∙ ap (λ b. cond b (Some text) (A q)) (or_parts (same_id q id) (has_id ids q) n).0;
  gone = λ q o n. let bad : true ≡ false = sym o ∙ (or_parts (same_id q id) (has_id ids q) n).1 in absurd (cc);
  came = λ q n. elim (or_cases (same_id q id) (has_id ids q) n) [
    | inl same ↦ inr (subst (λ x. A x ≡ None) (sym (same_id_is q id same)) none)
    | inr was ↦ inl was
  ];
}

-- a full node was put under a new id, and new trees beside it
pub risen : {S : Type 0} {H : Holdings S} {a b c : S} (depth above : ℕ) (first : Id) (node : NodeText) (new : List Id) (w t : List ℕ) (ids : List Id) → Holds (H.payload a) (H.content a) depth node w ids → NoDoubles ids → H.content a first ≡ None → SetsNode H a b first node
    → KeepsShape H a b → KeepsShape H b c → 0 < length w → length w ≡ span (H.payload a) depth → BuiltTrees H b c depth new t → depth + 1 ≡ above → Grown H a c above (inner above (first ∷ new)) (w ++ t) ids
risen {H = H} {a = a} {b = b} {c = c} depth above first node new w t ids holds alone none (text, (is, (sized, sets))) ab bc some full built deep =
    let A = H.content a in
    let B = H.content b in
    let C = H.content c in
    let P = H.payload c in
    let size = span P depth in
    let ca : H.payload a ≡ P = sym (bc.payload ∙ ab.payload) in
    let apart = not_among A ids first (holds_there (H.payload a) A depth node w ids holds) none in
    let moved = first ∷ ids in
    let put : IsTree P B depth first w moved = record {
      text = text;
      node = node;
      below = ids;
      there = sets first ∙ ap (λ x. cond x (Some text) (A first)) (same_self first);
      sized = sized ∙ ca;
      is = is;
      holds = subst (λ p. Holds p B depth node w ids) ca (holds_frame (H.payload a) A B depth node w ids (other A B first (Some text) ids sets apart) holds);
      all = refl;
    } in
    let free : (q : Id) → has_id moved q ≡ true → has_id built.ids q ≡ false = λ q h. came_none B C built.ids built.came q (tree_there P B depth first w moved put q h) in
    let tree : IsTree P C depth first w moved = tree_frame P B C depth first w moved (λ q h. built.came.kept q refl (free q h)) put in
    let long : length w ≡ size = full ∙ ap (λ p. span p depth) ca in
    let single : Forest (IsTree P C depth) size (first ∷ []) w moved =
    (some, (moved, ([], (subst (λ xs. IsTree P C depth first xs moved) (sym (take_all size w (omega (arith, long)))) tree, ((drop_all size w (omega (arith, long)), refl), sym (append-nil moved)))))) in
    let one = replaces_new A B first text ids sets none in
    let two : Replaces B C moved (moved ++ built.ids) = subst (λ xs. Replaces B C xs (moved ++ built.ids)) (append-nil moved) (replace_part B C moved [] built.ids built.came) in
    record {
      ids = moved ++ built.ids;
      holds = holds_inner P C above above depth (inner above (first ∷ new)) (w ++ t) (first ∷ new) (moved ++ built.ids) refl refl deep (forest_join (IsTree P C depth) size (first ∷ []) new w t moved built.ids single (λ more. omega (arith, long)) built.trees);
      alone = alone-join moved built.ids (apart, alone) built.alone free;
      replaces = replaces_then A B C ids moved (moved ++ built.ids) one two;
    }

-- one level more, and then as many as it takes
pub raise_more : {S : Type 0} {H : Holdings S} {a c d : S} {node up last : NodeText} (depth above n used more : ℕ) (rest : List ℕ) → 50 ≤ H.payload a → depth + 1 ≡ above → span (H.payload a) depth < n → H.payload c ≡ H.payload a → used + span (H.payload a) depth ≤ span (H.payload a) above → (used < length rest → used + span (H.payload a) depth ≡ span (H.payload a) above) → used ≤ length rest
    → ((w t : List ℕ) (ids : List Id) → Holds (H.payload a) (H.content a) depth node w ids → NoDoubles ids → 0 < length w → length w ≡ span (H.payload a) depth → t ≡ take used rest → Grown H a c above up (w ++ t) ids)
    → ((m : MayGrow H c above up n (length (drop used rest))) → Raised H c d last (m.bytes ++ drop used rest) m.ids × (more ≡ length (drop used rest)))
    → (m : MayGrow H a depth node n (length rest)) → Raised H a d last (m.bytes ++ rest) m.ids × (used + more ≡ length rest)
raise_more {H = H} {a = a} {c = c} {d = d} {node = node} {up = up} {last = last} depth above n used more rest least deep small payload all fills fits step go m =
    let some : 0 < length rest = elim (cases_lt 0 (length rest)) [ inl some ↦ some | inr le ↦ absurd (omega (arith, m.fits, m.sum, small, le)) ] in
    let full = m.full some in
    let room : 0 < length m.bytes = omega (arith, full, span-some (H.payload a) depth least) in
    let t = take used rest in
    let g = step m.bytes t m.ids m.holds m.alone room full refl in
    let t_len : length t ≡ used = omega (arith, length-take used rest, fits) in
    let left : length (drop used rest) ≡ length rest - used = length-drop used rest in
    let next : MayGrow H c above up n (length (drop used rest)) = record {
      bytes = m.bytes ++ t;
      ids = g.ids;
      holds = g.holds;
      alone = g.alone;
      fits = omega (arith, length-append m.bytes t, t_len, full, all, ap (λ p. span p above) payload);
      full = λ some. length-append m.bytes t ∙ omega (arith, t_len, full, fills (omega (arith, some, left)), ap (λ p. span p above) payload);
      sum = omega (arith, length-append m.bytes t, t_len, left, fits, m.sum);
      more = λ low is. let same : depth ≡ low = omega (arith, deep, is) in subst (λ k. span (H.payload c) k < n) same (omega (arith, ap (λ p. span p depth) payload, small));
    } in
    let r = go next in
    let bytes : (m.bytes ++ t) ++ drop used rest ≡ m.bytes ++ rest = append_assoc m.bytes t (drop used rest) ∙ ap (λ xs. m.bytes ++ xs) (take-append-drop used rest) in (
      subst (λ w. Raised H a d last w m.ids) bytes (record { depth = r.0.depth; deep = r.0.deep; grown = grown_then {above = r.0.depth} g r.0.grown }),
      omega (arith, r.1, left, fits),
    )

-- new trees filled the places beside the first
pub filled_up : (fan room used left : ℕ) → 0 < fan → used ≡ min ((fan - 1) * room) left → (used + room ≤ fan * room) × (used < left → used + room ≡ fan * room)
filled_up zero room used left some is = absurd (omega arith)
filled_up (suc k) room used left some is =
    let places : (suc k - 1) * room ≡ k * room = let e : suc k - 1 ≡ k = omega arith in ap (λ j. j * room) e in
    let all : suc k * room ≡ k * room + room = omega arith in (omega (arith, is, places, all), λ less. omega (arith, is, places, all, less))
