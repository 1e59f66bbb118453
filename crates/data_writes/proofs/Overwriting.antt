-- Bytes that are written inside a list, piece by piece, and the trees that hold them.
use Rattle.std.proofs.Common.{◌≡◌, ℕ, zero, suc, ◌+◌, ◌-◌, ◌*◌, ◌<◌, ◌≤◌, true, false, cond, List, [], ◌∷◌, ◌++◌, length, take, drop, refl, sym, ◌∙◌, ap, subst, inl, inr, arith, append_assoc, append-nil}
use Rattle.std.specs.Prelude.{Option, Some, min}
use Rattle.std.proofs.lemmas.Bool.{cases_lt, or_parts}
use Rattle.std.proofs.lemmas.List.{take-append-drop, length-take, length-drop, length-append, take-append-le, drop-append-le, drop_all, nil_from_length}
use Rattle.std.proofs.Math.Seq.{take-append-add, drop-append-add}
use Rattle.data_tree.specs.data_nodes.Layout.{NodeText, leaf, inner, IsNode}
use Rattle.data_tree.specs.store_api.Content.{Id, Content, same_id}
use Rattle.data_tree.specs.store_api.Holdings.{Holdings, Stays, has_id}
use Rattle.data_tree.specs.Trees.{IsTree, Holds, Forest, span, NoDoubles, depth_in}
use Rattle.data_tree.specs.Needs.{Sets, HasTree, HasTrees, KeepsShape}
use Rattle.data_tree.proofs.Ids.{in_left, not_both, same_self, alone-parts, apart, apart_right}
use Rattle.data_tree.proofs.Changes.{trees_frame}
use Rattle.data_tree.proofs.Making.{forest_more, full_next}
use Rattle.data_tree.proofs.Forests.{moved}
use Rattle.data_tree.proofs.Borders.{holds_leaf, holds_inner}
use Rattle.data_writes.specs.Writing.{MayWrite, WroteTree, WroteTrees, WriteRest, written_at}

pub written_none : (from : ℕ) (piece w : List ℕ) → length piece ≡ 0 → written_at from piece w ≡ w
written_none from piece w none =
    let nil : piece ≡ [] = nil_from_length piece none in
    let zero_more : from + 0 ≡ from = omega arith in
    ap (λ x. take from w ++ x ++ drop (from + length x) w) nil ∙ ap (λ xs. xs ++ drop (from + 0) w) (append-nil (take from w)) ∙ ap (λ k. take from w ++ drop k w) zero_more ∙ take-append-drop from w

pub length-written : (from : ℕ) (piece w : List ℕ) → (0 < length piece → from + length piece ≤ length w) → length (written_at from piece w) ≡ length w
length-written from piece w inside =
    elim (cases_lt 0 (length piece)) [
      | inl some ↦ omega (arith, inside some, length-append (take from w ++ piece) (drop (from + length piece) w), length-append (take from w) piece, length-take from w, length-drop (from + length piece) w)
      | inr none ↦ ap length (written_none from piece w (omega arith))
    ]

-- behind the first list
behind : (from : ℕ) (piece p q : List ℕ) → length p ≤ from → written_at from piece (p ++ q) ≡ p ++ written_at (from - length p) piece q
behind from piece p q le =
    let k = from - length p in
    let first : from ≡ length p + k = omega arith in
    let last : from + length piece ≡ length p + (k + length piece) = omega arith in
    let front : take from (p ++ q) ≡ p ++ take k q = ap (λ n. take n (p ++ q)) first ∙ take-append-add p q k in
    let back : drop (from + length piece) (p ++ q) ≡ drop (k + length piece) q = ap (λ n. drop n (p ++ q)) last ∙ drop-append-add p q (k + length piece) in
    ap (λ xs. xs ++ piece ++ drop (from + length piece) (p ++ q)) front ∙ ap (λ xs. (p ++ take k q) ++ piece ++ xs) back
    ∙ ap (λ xs. xs ++ drop (k + length piece) q) (append_assoc p (take k q) piece) ∙ append_assoc p (take k q ++ piece) (drop (k + length piece) q)

-- in the first list
before : (from : ℕ) (piece p q : List ℕ) → from + length piece ≤ length p → written_at from piece (p ++ q) ≡ written_at from piece p ++ q
before from piece p q le =
    let front : take from (p ++ q) ≡ take from p = take-append-le from p q (omega arith) in
    let back : drop (from + length piece) (p ++ q) ≡ drop (from + length piece) p ++ q = drop-append-le (from + length piece) p q le in
    ap (λ xs. xs ++ piece ++ drop (from + length piece) (p ++ q)) front ∙ ap (λ xs. take from p ++ piece ++ xs) back ∙ sym (append_assoc (take from p ++ piece) (drop (from + length piece) p) q)

-- over the seam
across : (from : ℕ) (now later p q : List ℕ) → from + length now ≡ length p → written_at from (now ++ later) (p ++ q) ≡ written_at from now p ++ written_at 0 later q
across from now later p q seam =
    let front : take from (p ++ q) ≡ take from p = take-append-le from p q (omega arith) in
    let last : from + length (now ++ later) ≡ length p + length later = omega (arith, length-append now later) in
    let back : drop (from + length (now ++ later)) (p ++ q) ≡ drop (length later) q = ap (λ n. drop n (p ++ q)) last ∙ drop-append-add p q (length later) in
    let none : drop (from + length now) p ≡ [] = drop_all (from + length now) p (omega arith) in
    let half : written_at from now p ≡ take from p ++ now = ap (λ xs. take from p ++ now ++ xs) none ∙ append-nil (take from p ++ now) in
    let zero_more : 0 + length later ≡ length later = omega arith in
    let rest : written_at 0 later q ≡ later ++ drop (length later) q = ap (λ k. later ++ drop k q) zero_more in
    ap (λ xs. xs ++ (now ++ later) ++ drop (from + length (now ++ later)) (p ++ q)) front ∙ ap (λ xs. take from p ++ (now ++ later) ++ xs) back
    ∙ ap (λ xs. xs ++ drop (length later) q) (sym (append_assoc (take from p) now later)) ∙ append_assoc (take from p ++ now) later (drop (length later) q)
    ∙ sym (ap (λ xs. xs ++ written_at 0 later q) half ∙ ap (λ xs. (take from p ++ now) ++ xs) rest)

-- the first piece, and what follows
pub write_step : (size from m : ℕ) (rest left now later : List ℕ) → (0 < length rest → from + length rest ≤ length left) → m ≡ min (size - from) (length rest) → now ≡ take m rest → later ≡ drop m rest
    → (written_at from rest left ≡ written_at from now (take size left) ++ written_at (from - size) later (drop size left))
    × ((0 < length now → from + length now ≤ length (take size left)) × (0 < length later → (from - size) + length later ≤ length (drop size left)))
write_step size from m rest left now later inside is first second =
    let len_now : length now ≡ min m (length rest) = ap length first ∙ length-take m rest in
    let len_later : length later ≡ length rest - m = ap length second ∙ length-drop m rest in
    let whole : take size left ++ drop size left ≡ left = take-append-drop size left in
    let both : now ++ later ≡ rest = ap (λ xs. xs ++ later) first ∙ ap (λ xs. take m rest ++ xs) second ∙ take-append-drop m rest in
    let len_p = length-take size left in
    let len_q = length-drop size left in (
      elim (cases_lt 0 (length rest)) [
        | inr none ↦
            written_none from rest left (omega arith) ∙ sym (ap (λ xs. xs ++ written_at (from - size) later (drop size left)) (written_none from now (take size left) (omega (arith, len_now)))
            ∙ ap (λ xs. take size left ++ xs) (written_none (from - size) later (drop size left) (omega (arith, len_later))) ∙ whole)
        | inl some ↦
            let fits = inside some in
            ap (written_at from rest) (sym whole) ∙ elim (cases_lt from size) [
              | inr ge ↦
                  let nothing : length now ≡ 0 = omega (arith, len_now, is) in
                  let all : rest ≡ later = sym both ∙ ap (λ xs. xs ++ later) (nil_from_length now nothing) in
                  let size_is : length (take size left) ≡ size = omega (arith, len_p) in
                  behind from rest (take size left) (drop size left) (omega (arith, len_p)) ∙ ap (λ k. take size left ++ written_at (from - k) rest (drop size left)) size_is
                  ∙ ap (λ xs. take size left ++ written_at (from - size) xs (drop size left)) all ∙ ap (λ xs. xs ++ written_at (from - size) later (drop size left)) (sym (written_none from now (take size left) nothing))
              | inl lt ↦ elim (cases_lt (size - from) (length rest)) [
                | inl more ↦
                    let seam : from + length now ≡ length (take size left) = omega (arith, len_now, is, len_p) in
                    let start : 0 ≡ from - size = omega arith in
                    ap (λ xs. written_at from xs (take size left ++ drop size left)) (sym both) ∙ across from now later (take size left) (drop size left) seam
                    ∙ ap (λ k. written_at from now (take size left) ++ written_at k later (drop size left)) start
                | inr less ↦
                    let nothing : length later ≡ 0 = omega (arith, len_later, is) in
                    let all : rest ≡ now = sym both ∙ ap (λ xs. now ++ xs) (nil_from_length later nothing) ∙ append-nil now in
                    before from rest (take size left) (drop size left) (omega (arith, len_p)) ∙ ap (λ xs. written_at from xs (take size left) ++ drop size left) all
                    ∙ ap (λ xs. written_at from now (take size left) ++ xs) (sym (written_none (from - size) later (drop size left) nothing))
              ]
            ]
      ],
      ((λ some. omega (arith, len_now, is, len_p, inside (omega (arith, len_now)))), (λ some. omega (arith, len_later, is, len_q, inside (omega (arith, len_later))))),
    )

-- a tree stands on while blocks are loaded, with the same node
abbrev pub tree_at : {S : Type 0} {H : Holdings S} {a b : S} {depth : ℕ} {id : Id} → Stays H a b → HasTree H a depth id → HasTree H b depth id
tree_at {H = H} {a = a} {b = b} {depth = depth} {id = id} stays n = record {
  bytes = n.bytes;
  ids = n.ids;
  told = stays.told ∙ n.told;
  tree = record {
    text = n.tree.text;
    node = n.tree.node;
    below = n.tree.below;
    there = stays.content n.told id ∙ n.tree.there;
    sized = n.tree.sized ∙ sym stays.payload;
    is = n.tree.is;
    holds = moved H a b stays n.told (λ p B. Holds p B depth n.tree.node n.bytes n.tree.below) n.tree.holds;
    all = n.tree.all;
  };
  alone = n.alone;
}

not_other : (A B : Content) (id : Id) (change : Option (List ℕ)) (below ids : List Id) → Sets A B id change → ids ≡ id ∷ below → (q : Id) → has_id ids q ≡ false → B q ≡ A q
not_other A B id change below ids sets all q h =
    let parts = or_parts (same_id q id) (has_id below q) (subst (λ xs. has_id xs q ≡ false) all h) in
    sets q ∙ ap (λ b. cond b change (A q)) parts.0

pub wrote_nothing : {S : Type 0} {H : Holdings S} {a : S} {depth : ℕ} {id : Id} (from : ℕ) (piece : List ℕ) → length piece ≡ 0 → (n : HasTree H a depth id) → WroteTree H a a depth id (written_at from piece n.bytes) n.ids
wrote_nothing {H = H} {a = a} {depth = depth} {id = id} from piece none n =
    record { tree = subst (λ w. IsTree (H.payload a) (H.content a) depth id w n.ids) (sym (written_none from piece n.bytes none)) n.tree; kept = λ q h. refl }

pub wrote_since : {S : Type 0} {H : Holdings S} {a b c : S} {depth : ℕ} {id : Id} {w : List ℕ} {ids : List Id} → Stays H a b → H.told a ≡ true → WroteTree H b c depth id w ids → WroteTree H a c depth id w ids
wrote_since stays told r = record { tree = r.tree; kept = λ q h. r.kept q h ∙ stays.content told q }

pub wrote_leaf : {S : Type 0} {H : Holdings S} {a b : S} {depth : ℕ} {id : Id} (node : NodeText) (old : List ℕ) (from : ℕ) (piece text : List ℕ) → (n : HasTree H a depth id) → node ≡ n.tree.node → leaf old ≡ node → old ≡ n.bytes
    → IsNode text (leaf (written_at from piece old)) → length text ≡ H.payload a → Sets (H.content a) (H.content b) id (Some text) → KeepsShape H a b → WroteTree H a b depth id (written_at from piece n.bytes) n.ids
wrote_leaf {H = H} {a = a} {b = b} {depth = depth} {id = id} node old from piece text n is leaf_at whole new sized sets keeps =
    let w = written_at from piece n.bytes in
    record {
      tree = record {
        text = text;
        node = leaf w;
        below = n.tree.below;
        there = sets id ∙ ap (λ b'. cond b' (Some text) (H.content a id)) (same_self id);
        sized = sized ∙ sym keeps.payload;
        is = subst (λ x. IsNode text (leaf (written_at from piece x))) whole new;
        holds = subst (λ p. Holds p (H.content b) depth (leaf w) w n.tree.below) (sym keeps.payload) (holds_leaf (H.payload a) (H.content a) (H.content b) depth n.tree.node n.bytes old w n.tree.below n.tree.holds (leaf_at ∙ is));
        all = n.tree.all;
      };
      kept = not_other (H.content a) (H.content b) id (Some text) n.tree.below n.ids sets n.tree.all;
    }

pub wrote_inner : {S : Type 0} {H : Holdings S} {a b : S} {depth : ℕ} {id : Id} {w : List ℕ} (node : NodeText) (d low : ℕ) (children : List Id) → (n : HasTree H a depth id) → node ≡ n.tree.node → inner d children ≡ node → depth_in node ≡ depth → low + 1 ≡ depth
    → has_id n.tree.below id ≡ false → KeepsShape H a b → WroteTrees H a b low children w n.tree.below → WroteTree H a b depth id w n.ids
wrote_inner {H = H} {a = a} {b = b} {depth = depth} {id = id} {w = w} node d low children n is inner_at level deep apart keeps r = record {
  tree = record {
    text = n.tree.text;
    node = node;
    below = n.tree.below;
    there = r.kept id apart ∙ n.tree.there;
    sized = n.tree.sized ∙ sym keeps.payload;
    is = subst (IsNode n.tree.text) (sym is) n.tree.is;
    holds = holds_inner (H.payload b) (H.content b) depth d low node w children n.tree.below inner_at level deep r.trees;
    all = n.tree.all;
  };
  kept = λ q h. r.kept q (or_parts (same_id q id) (has_id n.tree.below q) (subst (λ xs. has_id xs q ≡ false) n.tree.all h)).1;
}

pub write_start : {S : Type 0} {H : Holdings S} {a : S} {depth : ℕ} {children : List Id} (from : ℕ) (piece : List ℕ) → (n : HasTrees H a depth children) → (0 < length piece → from + length piece ≤ length n.bytes)
    → WriteRest H a a depth [] children from piece (written_at from piece n.bytes) n.ids
write_start from piece n inside = record {
  done = [];
  left = n.bytes;
  ids_done = [];
  ids_left = n.ids;
  parts = refl;
  joined = refl;
  inside = inside;
  full = λ some. omega arith;
  trees_done = (refl, refl);
  trees_left = n.trees;
  kept = λ q h. refl;
}

-- the first of the trees that are left, as the rest of a forest shows it
pub record FirstLeft {S : Type 0} (H : Holdings S) (s : S) (depth : ℕ) (child : Id) (rest : List Id) (left : List ℕ) (ids_left : List Id) : Type 0 where
  pub own : List Id
  pub after : List Id
  pub some : 0 < length left
  pub first : IsTree (H.payload s) (H.content s) depth child (take (span (H.payload s) depth) left) own
  pub others : Forest (IsTree (H.payload s) (H.content s) depth) (span (H.payload s) depth) rest (drop (span (H.payload s) depth) left) after
  pub parts : ids_left ≡ own ++ after

abbrev pub first_of_left : {S : Type 0} {H : Holdings S} {s : S} {depth : ℕ} {children : List Id} {left : List ℕ} {ids_left : List Id} (child : Id) (rest : List Id) → children ≡ child ∷ rest
    → Forest (IsTree (H.payload s) (H.content s) depth) (span (H.payload s) depth) children left ids_left → FirstLeft H s depth child rest left ids_left
first_of_left {H = H} {s = s} {depth = depth} {left = left} {ids_left = ids_left} child rest is trees =
    let f : Forest (IsTree (H.payload s) (H.content s) depth) (span (H.payload s) depth) (child ∷ rest) left ids_left =
    subst (λ cs. Forest (IsTree (H.payload s) (H.content s) depth) (span (H.payload s) depth) cs left ids_left) is trees in
    record { own = f.1.0; after = f.1.1.0; some = f.0; first = f.1.1.1.0; others = f.1.1.1.1.0; parts = f.1.1.1.1.1 }

abbrev pub child_left : {S : Type 0} {H : Holdings S} {a s : S} {depth : ℕ} {passed children : List Id} {place : ℕ} {bytes all : List ℕ} {ids : List Id} (child : Id) (rest : List Id) (size m : ℕ) (now later : List ℕ) → H.told s ≡ true → NoDoubles ids
    → children ≡ child ∷ rest → size ≡ span (H.payload s) depth → m ≡ min (size - place) (length bytes) → now ≡ take m bytes → later ≡ drop m bytes → WriteRest H a s depth passed children place bytes all ids → MayWrite H s depth child place (length now)
child_left {H = H} {s = s} {depth = depth} {place = place} {bytes = bytes} child rest size m now later told alone is sized cut front back r =
    let f = first_of_left {H = H} {s = s} {depth = depth} child rest is r.trees_left in
    let left : NoDoubles r.ids_left = (alone-parts r.ids_done r.ids_left (subst NoDoubles r.parts alone)).1 in
    record {
      tree = record { bytes = take (span (H.payload s) depth) r.left; ids = f.own; told = told; tree = f.first; alone = (alone-parts f.own f.after (subst NoDoubles f.parts left)).0 };
      inside = (write_step (span (H.payload s) depth) place m bytes r.left now later r.inside (cut ∙ ap (λ k. min (k - place) (length bytes)) sized) front back).1.0;
    }

-- the first of the trees that are left has what it had
pub left_kept : {S : Type 0} {H : Holdings S} {a s : S} {depth : ℕ} {passed children : List Id} {place : ℕ} {bytes all : List ℕ} {ids : List Id} (child : Id) (rest : List Id) → NoDoubles ids → (is : children ≡ child ∷ rest) → (r : WriteRest H a s depth passed children place bytes all ids)
    → (q : Id) → has_id (first_of_left {H = H} {s = s} {depth = depth} child rest is r.trees_left).own q ≡ true → H.content a q ≡ H.content s q
left_kept {H = H} {s = s} {depth = depth} child rest alone is r q h =
    let f = first_of_left {H = H} {s = s} {depth = depth} child rest is r.trees_left in
    let left : has_id r.ids_left q ≡ true = subst (λ xs. has_id xs q ≡ true) (sym f.parts) (in_left f.own f.after q h) in
    sym (r.kept q (apart_right r.ids_done r.ids_left (subst NoDoubles r.parts alone) q left))

pub write_next : {S : Type 0} {H : Holdings S} {a s t : S} {depth : ℕ} {passed children : List Id} {place : ℕ} {bytes all : List ℕ} {ids : List Id} (child : Id) (rest more : List Id) (size m place2 : ℕ) (now later : List ℕ) → (positive : 0 < span (H.payload s) depth) → (told : H.told s ≡ true) → (alone : NoDoubles ids)
    → (is : children ≡ child ∷ rest) → (sized : size ≡ span (H.payload s) depth) → (cut : m ≡ min (size - place) (length bytes)) → (front : now ≡ take m bytes) → (back : later ≡ drop m bytes) → (r : WriteRest H a s depth passed children place bytes all ids)
    → place2 ≡ place - size → more ≡ passed ++ child ∷ [] → KeepsShape H s t
    → WroteTree H s t depth child (written_at place now (take (span (H.payload s) depth) r.left)) (first_of_left {H = H} {s = s} {depth = depth} child rest is r.trees_left).own → WriteRest H a t depth more rest place2 later all ids
write_next {H = H} {a = a} {s = s} {t = t} {depth = depth} {passed = passed} {place = place} {bytes = bytes} {all = all} {ids = ids} child rest more size m place2 now later positive told alone is sized cut front back r lower grown keeps wrote =
    let x = span (H.payload s) depth in
    let f = first_of_left {H = H} {s = s} {depth = depth} child rest is r.trees_left in
    let step = write_step x place m bytes r.left now later r.inside (cut ∙ ap (λ k. min (k - place) (length bytes)) sized) front back in
    let piece = written_at place now (take x r.left) in
    let len : length piece ≡ length (take x r.left) = length-written place now (take x r.left) step.1.0 in
    let whole : NoDoubles (r.ids_done ++ r.ids_left) = subst NoDoubles r.parts alone in
    let left : NoDoubles (f.own ++ f.after) = subst NoDoubles f.parts (alone-parts r.ids_done r.ids_left whole).1 in
    let done_apart : (q : Id) → has_id r.ids_done q ≡ true → has_id f.own q ≡ false =
    λ q h. (not_both f.own f.after q (subst (λ xs. has_id xs q ≡ false) f.parts (apart r.ids_done r.ids_left whole q h))).0 in
    let same : H.payload s ≡ H.payload t = sym keeps.payload in
    let here : length r.done ≡ length passed * x = r.full f.some in
    let before = subst (λ p. Forest (IsTree p (H.content t) depth) x passed r.done r.ids_done) same
    (trees_frame (H.payload s) (H.content s) (H.content t) depth x passed r.done r.ids_done (λ q h. wrote.kept q (done_apart q h)) r.trees_done) in
    let both = forest_more (IsTree (H.payload t) (H.content t) depth) x passed r.done piece r.ids_done f.own child before here
    (omega (arith, len, f.some, length-take x r.left, positive)) (omega (arith, len, length-take x r.left)) wrote.tree in
    let after = subst (λ p. Forest (IsTree p (H.content t) depth) (span p depth) rest (drop x r.left) f.after) same
    (trees_frame (H.payload s) (H.content s) (H.content t) depth x rest (drop x r.left) f.after (λ q h. wrote.kept q (apart_right f.own f.after left q h)) f.others) in
    let place_is : place - x ≡ place2 = ap (λ k. place - k) (sym sized) ∙ sym lower in
    record {
      done = r.done ++ piece;
      left = drop x r.left;
      ids_done = r.ids_done ++ f.own;
      ids_left = f.after;
      parts = r.parts ∙ ap (λ xs. r.ids_done ++ xs) f.parts ∙ sym (append_assoc r.ids_done f.own f.after);
      joined = subst (λ k. (r.done ++ piece) ++ written_at k later (drop x r.left) ≡ all) place_is
          (append_assoc r.done piece (written_at (place - x) later (drop x r.left)) ∙ ap (λ xs. r.done ++ xs) (sym step.0) ∙ r.joined);
      inside = λ some. subst (λ k. k + length later ≤ length (drop x r.left)) place_is (step.1.1 some);
      full = λ some. length-append r.done piece ∙ full_next (length r.done) (length piece) (length passed) (length more) x (span (H.payload t) depth) here (omega (arith, len, some, length-take x r.left, length-drop x r.left))
          (ap length grown ∙ length-append passed (child ∷ [])) (ap (λ p. span p depth) same);
      trees_done = subst (λ p. Forest (IsTree (H.payload t) (H.content t) depth) (span p depth) more (r.done ++ piece) (r.ids_done ++ f.own)) same
          (subst (λ cs. Forest (IsTree (H.payload t) (H.content t) depth) x cs (r.done ++ piece) (r.ids_done ++ f.own)) (sym grown) both);
      trees_left = after;
      kept = λ q h. let parts = not_both r.ids_done f.own q h in wrote.kept q parts.1 ∙ r.kept q parts.0;
    }

no_more : (n place len : ℕ) → len ≡ 0 → (0 < n → place + n ≤ len) → n ≡ 0
no_more zero place len empty inside = refl
no_more (suc n) place len empty inside = absurd (omega (arith, inside (omega arith), empty))

pub write_done : {S : Type 0} {H : Holdings S} {a s : S} {depth : ℕ} {passed children list : List Id} {place : ℕ} {bytes all : List ℕ} {ids : List Id} → children ≡ [] → passed ≡ list → WriteRest H a s depth passed children place bytes all ids → WroteTrees H a s depth list all ids
write_done {H = H} {a = a} {s = s} {depth = depth} {passed = passed} {list = list} {place = place} {bytes = bytes} {all = all} {ids = ids} none everything r =
    let f : Forest (IsTree (H.payload s) (H.content s) depth) (span (H.payload s) depth) [] r.left r.ids_left =
    subst (λ cs. Forest (IsTree (H.payload s) (H.content s) depth) (span (H.payload s) depth) cs r.left r.ids_left) none r.trees_left in
    let empty : length r.left ≡ 0 = ap length f.0 in
    let spent : length bytes ≡ 0 = no_more (length bytes) place (length r.left) empty r.inside in
    let whole : r.done ≡ all = sym (ap (λ xs. r.done ++ xs) (written_none place bytes r.left spent ∙ f.0) ∙ append-nil r.done) ∙ r.joined in
    let names : r.ids_done ≡ ids = sym (r.parts ∙ ap (λ xs. r.ids_done ++ xs) f.1 ∙ append-nil r.ids_done) in
    record {
      trees = subst (λ cs. Forest (IsTree (H.payload s) (H.content s) depth) (span (H.payload s) depth) cs all ids) everything
          (subst (λ w. Forest (IsTree (H.payload s) (H.content s) depth) (span (H.payload s) depth) passed w ids) whole
          (subst (λ xs. Forest (IsTree (H.payload s) (H.content s) depth) (span (H.payload s) depth) passed r.done xs) names r.trees_done));
      kept = λ q h. r.kept q (subst (λ xs. has_id xs q ≡ false) (sym names) h);
    }
