-- Among more ids in a row than are used, one is free.
use Rattle.std.proofs.Common.{◌≡◌, ℕ, zero, suc, ◌+◌, ◌-◌, ◌^◌, ◌<◌, ◌≤◌, Bool, true, false, List, [], ◌∷◌, length, refl, sym, ◌∙◌, ap, subst, arith, add-one, below_more}
use Rattle.std.specs.Prelude.{nat_lt, not, ◌&&◌, ◌||◌, ◌++◌, is_some}
use Rattle.std.proofs.lemmas.Grind.{common_steps}
use Rattle.block_id.specs.Name.{next_id}
use Rattle.block_id.specs.Fresh.{nth_id, zero_id, IsFirstFree}
use Rattle.block_id.proofs.Candidates.{value, behind, behind-nth_id, nth_id-add, at_least, at_least-one, at_least-falls, at_least-passed}
use Rattle.std.specs.FinMap as fin
use Rattle.std.specs.FinMap.{len-entries}
use Rattle.std.proofs.lemmas.List.{length-map}
use Rattle.std.proofs.Common.{length-append}
use Rattle.store_api.specs.Content.{Id, same_id, Changes}
use Rattle.store_api.specs.Overlay.{has_id-over}
use Rattle.store_api.specs.Holdings.{has_id, is_free}
use Rattle.store_api.specs.Passing.{PassedOver}
use Rattle.store_api.proofs.Rising.{same_id_is}

-- how many of the ids lie n or more places behind d
ahead : ℕ → ℕ → List Id → ℕ
ahead d n [] = 0
ahead d n (id ∷ ids) = at_least d n (value id) + ahead d n ids

ahead-start : (d : ℕ) (ids : List Id) → ahead d 0 ids ≤ length ids
unfolding ahead
ahead-start d [] = omega arith
ahead-start d (id ∷ ids) = omega (arith, at_least-one d 0 (value id), ahead-start d ids)

ahead-falls : (d n : ℕ) (ids : List Id) → ahead d (n + 1) ids ≤ ahead d n ids
unfolding ahead
ahead-falls d n [] = omega arith
ahead-falls d n (id ∷ ids) = omega (arith, at_least-falls d n (value id), ahead-falls d n ids)

ahead-passed : (d n : ℕ) (id : Id) (ids : List Id) → behind d (value id) ≡ n → has_id ids id ≡ true → ahead d (n + 1) ids + 1 ≤ ahead d n ids
unfolding ahead
ahead-passed d n id [] is h = absurd (cc)
ahead-passed d n id (x ∷ ids) is h =
    elim (same_id id x) as (λ b. same_id id x ≡ b → (b || has_id ids id) ≡ true → ahead d (n + 1) (x ∷ ids) + 1 ≤ ahead d n (x ∷ ids)) [
      | true ↦ λ s _. omega (arith, at_least-passed d n (value x) (ap (λ (y : Id). behind d (value y)) (sym (same_id_is id x s)) ∙ is), ahead-falls d n ids)
      | false ↦ λ s later. omega (arith, at_least-falls d n (value x), ahead-passed d n id ids is later)
    ] refl h

-- so many ids in a row are all among these
crowd : (drawn : Id) (ids : List Id) (m : ℕ) → m < 2 ^ 128 → ((n : ℕ) → n < m → has_id ids (nth_id drawn n) ≡ true) → m + ahead (value drawn) m ids ≤ length ids
crowd drawn ids zero small all = omega (arith, ahead-start (value drawn) ids)
crowd drawn ids (suc m) small all =
    let rest : m + ahead (value drawn) m ids ≤ length ids = crowd drawn ids m (omega arith) (λ n lt. all n (omega arith)) in
    let here : has_id ids (nth_id drawn m) ≡ true = all m (omega arith) in
    let fewer : ahead (value drawn) (m + 1) ids + 1 ≤ ahead (value drawn) m ids = ahead-passed (value drawn) m (nth_id drawn m) ids (behind-nth_id drawn m (omega arith)) here in
    let e : m + 1 ≡ suc m = omega arith in
    let moved : ahead (value drawn) (suc m) ids + 1 ≤ ahead (value drawn) m ids = subst (λ k. ahead (value drawn) k ids + 1 ≤ ahead (value drawn) m ids) e fewer in
    omega arith

-- so they are no more than these
few_taken : (drawn : Id) (ids : List Id) (m : ℕ) → length ids < 2 ^ 100 → ((n : ℕ) → n < m → has_id ids (nth_id drawn n) ≡ true) → m ≤ length ids
few_taken drawn ids m small all =
    elim (nat_lt m (2 ^ 100)) as (λ b. nat_lt m (2 ^ 100) ≡ b → m ≤ length ids) [
      | true ↦ λ e. let lt : m < 2 ^ 100 = grind (arith, common_steps) in omega (arith, crowd drawn ids m (omega arith) all)
      | false ↦ λ e. let ge : 2 ^ 100 ≤ m = grind (arith, common_steps) in absurd (omega (arith, crowd drawn ids (2 ^ 100) (omega arith) (λ n lt. all n (omega arith))))
    ] refl

taken : (used : List Id) (id : Id) → is_free used id ≡ false → has_id (zero_id ∷ used) id ≡ true
taken used id h = cases (has_id used id) (same_id id zero_id) h
  where
    cases : (a b : Bool) → (not a && not b) ≡ false → (b || a) ≡ true
    cases true true h = refl
    cases true false h = refl
    cases false true h = refl
    cases false false h = absurd (cc)

-- how many ids may be passed over before a free one
pub passed-few : (used : List Id) (drawn id : Id) → length used < 2 ^ 66 → (p : PassedOver (is_free used) drawn id) → (p.steps ≤ length used + 1) × (behind (value drawn) (value id) ≡ p.steps)
passed-few used drawn id small p =
    let few : p.steps ≤ length (zero_id ∷ used) = few_taken drawn (zero_id ∷ used) p.steps (omega arith) (λ n lt. taken used (nth_id drawn n) (p.first n lt)) in
    (omega arith, ap (λ (y : Id). behind (value drawn) (value y)) p.reached ∙ behind-nth_id drawn p.steps (omega arith))

pub passed-none : (is_free : Id → Bool) (drawn : Id) → PassedOver is_free drawn drawn
passed-none is_free drawn = record { steps = 0; reached = refl; first = λ n lt. absurd (omega arith) }

-- free of the changes and of the store
free-over : (changes : Changes) (used : List Id) (id : Id) → is_free (fin.keys changes ++ used) id ≡ (not (is_some (fin.get changes id)) && is_free used id)
free-over changes used id = ap (λ b. not b && not (same_id id zero_id)) (has_id-over changes used id) ∙ split (is_some (fin.get changes id)) (has_id used id) (not (same_id id zero_id))
  where
    split : (a b c : Bool) → (not (a || b) && c) ≡ (not a && (not b && c))
    split true b c = refl
    split false b c = refl

not_below : (a b : Bool) → b ≡ false → (a && b) ≡ false
not_below true b e = e
not_below false b e = refl

both_true : (a b : Bool) → a ≡ false → b ≡ true → (not a && b) ≡ true
both_true a b e f = ap (λ c. not c && b) e ∙ f

-- what is passed over in the store is passed over in both
pub stepped : (changes : Changes) (used : List Id) (drawn id new : Id) → PassedOver (is_free (fin.keys changes ++ used)) drawn id → IsFirstFree (is_free used) id new → PassedOver (is_free (fin.keys changes ++ used)) drawn new
stepped changes used drawn id new p f = record {
  steps = p.steps + f.steps;
  reached = f.reached ∙ (ap (λ x. nth_id x f.steps) p.reached ∙ nth_id-add drawn p.steps f.steps);
  first = λ n lt. elim (nat_lt n p.steps) as (λ b. nat_lt n p.steps ≡ b → is_free (fin.keys changes ++ used) (nth_id drawn n) ≡ false) [
    | true ↦ λ e. p.first n (grind (arith, common_steps))
    | false ↦ λ e.
        let k = n - p.steps in
        let at : n ≡ p.steps + k = grind (arith, common_steps) in
        let below : k < f.steps = grind (arith, common_steps) in
        free-over changes used (nth_id drawn n) ∙ not_below (not (is_some (fin.get changes (nth_id drawn n)))) (is_free used (nth_id drawn n))
        (ap (is_free used) (ap (nth_id drawn) at ∙ (sym (nth_id-add drawn p.steps k) ∙ ap (λ x. nth_id x k) (sym p.reached))) ∙ f.first k below)
  ] refl;
}

pub ends_free : (changes : Changes) (used : List Id) (drawn id new : Id) → PassedOver (is_free (fin.keys changes ++ used)) drawn id → IsFirstFree (is_free used) id new → is_some (fin.get changes new) ≡ false
    → IsFirstFree (is_free (fin.keys changes ++ used)) drawn new
ends_free changes used drawn id new p f none =
    let q = stepped changes used drawn id new p f in
    record {
      free = free-over changes used new ∙ both_true (is_some (fin.get changes new)) (is_free used new) none f.free;
      steps = q.steps;
      reached = q.reached;
      first = q.first;
    }

-- one more is passed over
unfoldable pub passed-next : (is_free : Id → Bool) (drawn id next : Id) → PassedOver is_free drawn id → is_free id ≡ false → next ≡ next_id id → PassedOver is_free drawn next
passed-next is_free drawn id next p not_free is = record {
  steps = p.steps + 1;
  reached = is ∙ (ap next_id p.reached ∙ ap (nth_id drawn) (sym (add-one p.steps)));
  first = below_more (λ n. is_free (nth_id drawn n) ≡ false) p.steps p.first (subst (λ x. is_free x ≡ false) p.reached not_free);
}

pub passed-taken : (changes : Changes) (used : List Id) (drawn id new next : Id) → PassedOver (is_free (fin.keys changes ++ used)) drawn id → IsFirstFree (is_free used) id new
    → is_some (fin.get changes new) ≡ true → next ≡ next_id new → PassedOver (is_free (fin.keys changes ++ used)) drawn next
passed-taken changes used drawn id new next p f some is =
    passed-next (is_free (fin.keys changes ++ used)) drawn new next (stepped changes used drawn id new p f)
    (free-over changes used new ∙ ap (λ b. not b && is_free used new) some) is

pub passed-smaller : (changes : Changes) (used : List Id) (drawn id new next : Id) → length (fin.keys changes ++ used) < 2 ^ 65 → (p : PassedOver (is_free (fin.keys changes ++ used)) drawn id) → (f : IsFirstFree (is_free used) id new)
    → is_some (fin.get changes new) ≡ true → next ≡ next_id new
    → (length (fin.keys changes ++ used) + 2) - behind (value drawn) (value next) < (length (fin.keys changes ++ used) + 2) - behind (value drawn) (value id)
unfolding passed-taken passed-next stepped
passed-smaller changes used drawn id new next small p f some is =
    let q = passed-taken changes used drawn id new next p f some is in
    let before = passed-few (fin.keys changes ++ used) drawn id (omega arith) p in
    let after = passed-few (fin.keys changes ++ used) drawn next (omega arith) q in
    let more : q.steps ≡ p.steps + f.steps + 1 = refl in
    omega (arith, before.0, before.1, after.0, after.1, more)

-- as many ids as the changes and the store have
pub length-both : (changes : Changes) (used : List Id) → length (fin.keys changes ++ used) ≡ fin.len changes + length used
length-both changes used = length-append (fin.keys changes) used ∙ ap (λ n. n + length used) (length-map (fin.entries changes) (λ e. e.0) ∙ sym (len-entries changes))
