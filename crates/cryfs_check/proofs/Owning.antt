-- The blocks of one more seat.
use Rattle.std.proofs.Common.{◌≡◌, ℕ, ◌+◌, Bool, true, false, List, [], ◌∷◌, ◌++◌, length, refl, sym, ◌∙◌, ap, subst, inl, inr, arith}
use Rattle.std.specs.Prelude.{Some, is_some, map, reverse, ◌||◌}
use Rattle.std.specs.List.{slice_get}
use Rattle.std.proofs.lemmas.List.{map-append, reverse-append}
use Rattle.check_rules.specs.data_tree.Trees.{NoDoubles}
use Rattle.check_rules.proofs.data_tree_lemmas.Ids.{in_left, in_right, in_one}
use Rattle.check_rules.proofs.store_api_lemmas.Ids.{has-append}
use Rattle.check_rules.proofs.data_tree_lemmas.Making.{alone-join}
use Rattle.check_rules.specs.store_api.Content.{Id, same_id}
use Rattle.check_rules.specs.store_api.Holdings.{has_id}
use Rattle.check_rules.proofs.store_api_lemmas.Rising.{same_id_is}
use Rattle.check_rules.specs.check_walk.Given.{Given}
use Rattle.check_rules.specs.check_walk.Marks.{MarkList, MarkedAll, owner_of}
use Rattle.cryfs_check.specs.Seats.{Seat}
use Rattle.cryfs_check.specs.Visits.{AreOwned}
use Rattle.cryfs_check.proofs.Lists.{at_left, at_end, at_pushed}

abbrev given_ids : Given → List Id
given_ids given = map (λ g. g.0) given

turned : (x : Id) (xs : List Id) → reverse (x ∷ xs) ≡ reverse xs ++ x ∷ []
turned x xs = reverse-append (x ∷ []) xs

or_swapped : (a b : Bool) → (a || (b || false)) ≡ (b || a)
or_swapped true true = refl
or_swapped true false = refl
or_swapped false true = refl
or_swapped false false = refl

pub has-reverse : (xs : List Id) (q : Id) → has_id (reverse xs) q ≡ has_id xs q
has-reverse [] q = refl
has-reverse (x ∷ xs) q =
    ap (λ ys. has_id ys q) (turned x xs) ∙ (has-append (reverse xs) (x ∷ []) q ∙ (ap (λ b. b || (same_id q x || false)) (has-reverse xs q) ∙ or_swapped (has_id xs q) (same_id q x)))

only_one : (x q : Id) → has_id (x ∷ []) q ≡ true → q ≡ x
only_one x q h = same_id_is q x (by (same_id q x) h)
  where
    by : (b : Bool) → (b || false) ≡ true → b ≡ true
    by true e = refl
    by false e = absurd (cc)

pub alone-reverse : (xs : List Id) → NoDoubles xs → NoDoubles (reverse xs)
alone-reverse [] h = tt
alone-reverse (x ∷ xs) h =
    subst NoDoubles (sym (turned x xs))
    (alone-join (reverse xs) (x ∷ []) (alone-reverse xs h.1) (refl, tt) (λ q there. by q (has_id (x ∷ []) q) refl there))
  where
    by : (q : Id) (b : Bool) → has_id (x ∷ []) q ≡ b → has_id (reverse xs) q ≡ true → b ≡ false
    by q true here there =
        let same : q ≡ x = only_one x q here in
        let bad : true ≡ false = sym there ∙ (has-reverse xs q ∙ (ap (has_id xs) same ∙ h.0)) in
        absurd (cc)
    by q false here there = refl

pub more_than_none : (i : ℕ) → Some (i + 1) ≡ Some 0 → ⊥
more_than_none i e = let same : i + 1 ≡ 0 = cc in omega (arith, same)

same_number : (i j : ℕ) → Some (i + 1) ≡ Some (j + 1) → i ≡ j
same_number i j e = let same : i + 1 ≡ j + 1 = cc in omega (arith, same)

module _ (old marks new : MarkList) (seats : List Seat) (seat : Seat) (given more : Given) (owned : AreOwned old marks seats given) (marked : MarkedAll marks new seat.ids (length seats + 1)) (alone : NoDoubles seat.ids) (once : map (λ g. g.0) more ≡ reverse seat.ids) where
  in_more : (q : Id) → has_id (given_ids more) q ≡ has_id seat.ids q
  in_more q = ap (λ xs. has_id xs q) once ∙ has-reverse seat.ids q

  -- a block that had an owner isn't of this seat
  had : (q : Id) (i : ℕ) → owner_of marks q ≡ Some (i + 1) → has_id seat.ids q ≡ false
  had q i e = by (has_id seat.ids q) refl
    where
      by : (b : Bool) → has_id seat.ids q ≡ b → b ≡ false
      by true h = absurd (more_than_none i (sym e ∙ marked.was q h))
      by false h = refl

  same_next : (q : Id) (b : Bool) → has_id seat.ids q ≡ b → is_some (owner_of new q) ≡ is_some (owner_of old q)
  same_next q true h = ap is_some (marked.now q h) ∙ (ap is_some (sym (marked.was q h)) ∙ owned.same q)
  same_next q false h = ap is_some (marked.kept q h) ∙ owned.same q

  owned_next : (q : Id) (i : ℕ) (b : Bool) → has_id seat.ids q ≡ b → owner_of new q ≡ Some (i + 1) → (s : Seat) × ((slice_get (seats ++ seat ∷ []) i ≡ Some s) × (has_id s.ids q ≡ true))
  owned_next q i true h e =
      let at : length seats ≡ i = same_number (length seats) i (sym (marked.now q h) ∙ e) in
      (seat, (ap (slice_get (seats ++ seat ∷ [])) (sym at) ∙ at_end seats [] seat, h))
  owned_next q i false h e = let s = owned.owned q i (sym (marked.kept q h) ∙ e) in (s.0, (at_left seats (seat ∷ []) i s.0 s.1.0, s.1.1))

  owns_next : (q : Id) (i : ℕ) (s : Seat) → slice_get (seats ++ seat ∷ []) i ≡ Some s → has_id s.ids q ≡ true → owner_of new q ≡ Some (i + 1)
  owns_next q i s at h = elim (at_pushed seats seat i s at) [
    | inl here ↦ let was = owned.owns q i s here h in marked.kept q (had q i was) ∙ was
    | inr last ↦ marked.now q (ap (λ (z : Seat). has_id z.ids q) last.1 ∙ h) ∙ ap (λ n. Some (n + 1)) (sym last.0)
  ]

  loaded_next : (q : Id) → has_id (given_ids (more ++ given)) q ≡ true → (i : ℕ) × (owner_of new q ≡ Some (i + 1))
  loaded_next q h = elim (in_one (given_ids more) (given_ids given) q (sym (ap (λ xs. has_id xs q) (map-append (λ (g : Id × List ℕ). g.0) more given)) ∙ h)) [
    | inl first ↦ (length seats, marked.now q (sym (in_more q) ∙ first))
    | inr later ↦ let o = owned.loaded q later.1 in (o.0, marked.kept q (sym (in_more q) ∙ later.0) ∙ o.1)
  ]

  gave_next : (q : Id) (i : ℕ) (b : Bool) → has_id seat.ids q ≡ b → owner_of new q ≡ Some (i + 1) → has_id (given_ids (more ++ given)) q ≡ true
  gave_next q i true h e = ap (λ xs. has_id xs q) (map-append (λ (g : Id × List ℕ). g.0) more given) ∙ in_left (given_ids more) (given_ids given) q (in_more q ∙ h)
  gave_next q i false h e =
      ap (λ xs. has_id xs q) (map-append (λ (g : Id × List ℕ). g.0) more given) ∙ in_right (given_ids more) (given_ids given) q (owned.gave q i (sym (marked.kept q h) ∙ e))

  once_next : NoDoubles (given_ids (more ++ given))
  once_next =
      subst NoDoubles (sym (map-append (λ (g : Id × List ℕ). g.0) more given))
      (alone-join (given_ids more) (given_ids given) (subst NoDoubles (sym once) (alone-reverse seat.ids alone)) owned.once (λ q h. new_only q (sym (in_more q) ∙ h) (has_id (given_ids given) q) refl))
    where
      new_only : (q : Id) → has_id seat.ids q ≡ true → (b : Bool) → has_id (given_ids given) q ≡ b → b ≡ false
      new_only q h true there = let o = owned.loaded q there in absurd (more_than_none o.0 (sym o.1 ∙ marked.was q h))
      new_only q h false there = refl

  pub owned_more : AreOwned old new (seats ++ seat ∷ []) (more ++ given)
  owned_more = record {
    same = λ q. same_next q (has_id seat.ids q) refl;
    owned = λ q i e. owned_next q i (has_id seat.ids q) refl e;
    owns = owns_next;
    loaded = loaded_next;
    gave = λ q i e. gave_next q i (has_id seat.ids q) refl e;
    once = once_next;
  }

pub owned_none : (marks : MarkList) → ((q : Id) (n : ℕ) → owner_of marks q ≡ Some n → n ≡ 0) → AreOwned marks marks [] []
owned_none marks none = record {
  same = λ q. refl;
  owned = λ q i e. let bad : i + 1 ≡ 0 = none q (i + 1) e in absurd (omega (arith, bad));
  owns = λ q i s e. absurd (cc);
  loaded = λ q h. absurd (cc);
  gave = λ q i e. let bad : i + 1 ≡ 0 = none q (i + 1) e in absurd (omega (arith, bad));
  once = tt;
}
