-- Loads, marks and first bytes of walks in a row.
use Rattle.std.proofs.Common.{◌≡◌, ◌⊎◌, ℕ, zero, suc, ◌+◌, ◌-◌, ◌<◌, Bool, true, false, cond, List, [], ◌∷◌, ◌++◌, length, take, refl, sym, ◌∙◌, ap, subst, inl, inr, arith, append_assoc, append-nil}
use Rattle.std.specs.Prelude.{map, reverse, Some, min, ◌||◌}
use Rattle.std.proofs.lemmas.List.{length-take, length-append, map-append, reverse-append}
use Rattle.std.proofs.lemmas.Bool.{or_cases, or_parts, false_from_ne_true}
use Rattle.data_tree.specs.store_api.Content.{Id, Content, same_id}
use Rattle.data_tree.specs.store_api.Holdings.{has_id}
use Rattle.data_tree.specs.store_api.Loads.{LoadAnswer}
use Rattle.data_tree.proofs.store_api_lemmas.Rising.{same_id_is}
use Rattle.data_tree.proofs.Ids.{in_one, not_both}
use Rattle.check_walk.specs.Fronts.{FrontState, joined_front}
use Rattle.check_walk.specs.Given.{Given, GaveBy, AgreesWith}
use Rattle.check_walk.specs.Marks.{MarkList, MarkedOne, MarkedAll, owner_of}

-- ---- loads

pub gave-then : {S : Type 0} (loads : S → S → Id → LoadAnswer → Type 0) (a b c : S) (xs ys : Given) → GaveBy loads a xs b → GaveBy loads b ys c → GaveBy loads a (ys ++ xs) c
gave-then loads a b c xs [] f g = subst (λ s. GaveBy loads a xs s) (sym g) f
gave-then loads a b c xs (y ∷ ys) f (mid, (g, l)) = (mid, (gave-then loads a b mid xs ys f g, l))

pub agrees-parts : (B : Content) (xs ys : Given) → AgreesWith B (xs ++ ys) → AgreesWith B xs × AgreesWith B ys
agrees-parts B [] ys h = (tt, h)
agrees-parts B (x ∷ xs) ys h = let rest = agrees-parts B xs ys h.1 in ((h.0, rest.0), rest.1)

pub once-then : (xs ys : Given) (ids jds : List Id) → map (λ g. g.0) xs ≡ reverse ids → map (λ g. g.0) ys ≡ reverse jds → map (λ g. g.0) (ys ++ xs) ≡ reverse (ids ++ jds)
once-then xs ys ids jds e f = map-append (λ (g : Id × List ℕ). g.0) ys xs ∙ (ap (λ z. z ++ map (λ g. g.0) xs) f ∙ (ap (λ z. reverse jds ++ z) e ∙ sym (reverse-append ids jds)))

-- ---- marks

zero_some : (n : ℕ) → 0 < n → Some n ≡ Some 0 → ⊥
zero_some n some e = let same : n ≡ 0 = cc in omega (arith, same)

-- the blocks of two walks differ
pub marked-apart : {a b c : MarkList} {xs ys : List Id} {owner : ℕ} → 0 < owner → MarkedAll a b xs owner → MarkedAll b c ys owner → (q : Id) → has_id xs q ≡ true → has_id ys q ≡ false
marked-apart {xs = xs} {ys = ys} {owner = owner} some one two q h = false_from_ne_true (has_id ys q) (λ e. zero_some owner some (sym (one.now q h) ∙ two.was q e))

pub marked-then : {a b c : MarkList} {xs ys : List Id} {owner : ℕ} → 0 < owner → MarkedAll a b xs owner → MarkedAll b c ys owner → MarkedAll a c (xs ++ ys) owner
marked-then {a = a} {b = b} {c = c} {xs = xs} {ys = ys} {owner = owner} some one two = record {
  was = λ q h. elim (in_one xs ys q h) [
    | inl first ↦ one.was q first
    | inr later ↦ sym (one.kept q later.0) ∙ two.was q later.1
  ];
  now = λ q h. by q (has_id ys q) refl (in_one xs ys q h);
  kept = λ q h. let parts = not_both xs ys q h in two.kept q parts.1 ∙ one.kept q parts.0;
}
  where
    by : (q : Id) (r : Bool) → has_id ys q ≡ r → (has_id xs q ≡ true) ⊎ ((has_id xs q ≡ false) × (has_id ys q ≡ true)) → owner_of c q ≡ Some owner
    by q true e h = two.now q e
    by q false e (inl first) = two.kept q e ∙ one.now q first
    by q false e (inr later) = two.now q later.1

pub marked-one : {old new : MarkList} {id : Id} {owner : ℕ} → MarkedOne old new id owner → MarkedAll old new (id ∷ []) owner
marked-one {old = old} {new = new} {id = id} {owner = owner} one = record {
  was = λ q h. subst (λ x. owner_of old x ≡ Some 0) (sym (only q h)) one.was;
  now = λ q h. one.now q ∙ ap (λ b. cond b (Some owner) (owner_of old q)) (is q h);
  kept = λ q h. one.now q ∙ ap (λ b. cond b (Some owner) (owner_of old q)) (or_parts (same_id q id) false h).0;
}
  where
    is : (q : Id) → (same_id q id || false) ≡ true → same_id q id ≡ true
    is q h = elim (or_cases (same_id q id) false h) [ inl same ↦ same | inr never ↦ absurd (cc) ]

    only : (q : Id) → (same_id q id || false) ≡ true → q ≡ id
    only q h = same_id_is q id (is q h)

pub marked-none : (marks : MarkList) (owner : ℕ) → MarkedAll marks marks [] owner
marked-none marks owner = record { was = λ q h. absurd (cc); now = λ q h. absurd (cc); kept = λ q h. refl }

-- ---- first bytes

take-append : (n : ℕ) (w v : List ℕ) → take n (w ++ v) ≡ take n w ++ take (n - length w) v
take-append zero w v = let e : 0 - length w ≡ 0 = omega arith in ap (λ k. take k v) (sym e)
take-append (suc n) [] v = let e : suc n - 0 ≡ suc n = omega arith in ap (λ k. take k v) (sym e)
take-append (suc n) (x ∷ w) v =
    let e : n - length w ≡ suc n - length (x ∷ w) = omega arith in
    ap (λ xs. x ∷ xs) (take-append n w v ∙ ap (λ k. take n w ++ take k v) e)

left_of : (fm fb gm gb w : ℕ) → gm ≡ fm → gb ≡ fb + min (fm - fb) w → gm - gb ≡ (fm - fb) - w
left_of fm fb gm gb w most long = omega arith

pub front-then : (f g h : FrontState) (w v : List ℕ) → g.most ≡ f.most → g.bytes ≡ joined_front f w → h.bytes ≡ joined_front g v → h.bytes ≡ joined_front f (w ++ v)
front-then f g h w v most one two =
    let long : length g.bytes ≡ length f.bytes + min (f.most - length f.bytes) (length w) =
    ap length one ∙ (length-append f.bytes (take (f.most - length f.bytes) w) ∙ ap (λ k. length f.bytes + k) (length-take (f.most - length f.bytes) w)) in
    let left = left_of f.most (length f.bytes) g.most (length g.bytes) (length w) most long in
    two ∙ (ap (λ k. g.bytes ++ take k v) left ∙ (ap (λ xs. xs ++ take ((f.most - length f.bytes) - length w) v) one
    ∙ (append_assoc f.bytes (take (f.most - length f.bytes) w) (take ((f.most - length f.bytes) - length w) v)
    ∙ ap (λ xs. f.bytes ++ xs) (sym (take-append (f.most - length f.bytes) w v)))))

take-none : (n : ℕ) (xs : List ℕ) → xs ≡ [] → take n xs ≡ []
take-none zero xs e = refl
take-none (suc n) [] e = refl
take-none (suc n) (x ∷ xs) e = absurd (cc)

pub front-none : (f : FrontState) → f.bytes ≡ joined_front f []
front-none f = sym (ap (λ xs. f.bytes ++ xs) (take-none (f.most - length f.bytes) [] refl) ∙ append-nil f.bytes)
