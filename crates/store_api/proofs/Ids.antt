-- Where new ids come from, as the changes and the store change.
use Rattle.std.proofs.Common.{◌≡◌, ℕ, Bool, true, false, List, [], ◌∷◌, refl, sym, ◌∙◌, ap, subst}
use Rattle.std.specs.Prelude.{Option, Some, None, Result, Ok, Err, OnOk, OnErr, not, cond, ◌&&◌, ◌||◌, ◌++◌, is_some}
use Rattle.std.specs.FinMap as fin
use Rattle.std.specs.FinMap.{get-empty, get-insert, get-remove}
use Rattle.std.proofs.lemmas.Bool.{or_right}
use Rattle.std.proofs.lemmas.List.Folds.{list_any-append}
use Rattle.block_id.specs.Fresh.{IsFirstFree, nth_id, zero_id}
use Rattle.rand_core.specs.Stream.{Stream, fill_bytes}
use Rattle.store_api.specs.Content.{Id, id_cmp, same_id, Changes, or_else}
use Rattle.store_api.specs.Draws.{IsLater}
use Rattle.store_api.specs.Holdings.{has_id, is_free}
use Rattle.store_api.specs.Ids.{AreIdsOf, ComeOfSeed, chacha20}
use Rattle.store_api.specs.Overlay.{has_id-over}
use Rattle.store_api.specs.Passing.{PassedOver}
use Rattle.store_api.proofs.Draws.{later_chained, later_same}
use Rattle.store_api.proofs.Rising.{ids_total, same_id_is}

-- what is left after ids were drawn is later
pub later_of_ids : (used drawn : List Id) (stream left : Stream) → AreIdsOf used drawn stream left → IsLater stream left
later_of_ids used [] stream left come = come
later_of_ids used (id ∷ older) stream left (before, come, passed, is) =
    later_chained stream before left (later_of_ids used older stream before come) (16 ∷ [], is)

-- no changes
pub come_nothing : (seed : List ℕ) (left : Stream) (used : List Id) (changes : Changes) → IsLater (chacha20 seed) left → changes ≡ fin.empty → ComeOfSeed seed left used changes
come_nothing seed left used changes later none = record {
  drawn = [];
  come = later;
  all = λ id there unused. let bad : false ≡ true = sym (ap is_some (ap (λ m. fin.get m id) none ∙ get-empty id_cmp id)) ∙ there in absurd (cc);
}

-- changes of used ids alone
pub come_known : (seed : List ℕ) (used : List Id) (changes : Changes) → ((id : Id) → is_some (fin.get changes id) ≡ true → has_id used id ≡ true) → ComeOfSeed seed (chacha20 seed) used changes
come_known seed used changes known = record {
  drawn = [];
  come = later_same (chacha20 seed);
  all = λ id there unused. let bad : false ≡ true = sym unused ∙ known id there in absurd (cc);
}

-- other changes, whose ids are used or were among the changes
pub come_within : (seed : List ℕ) (left : Stream) (used : List Id) (old new : Changes) → ((q : Id) → is_some (fin.get new q) ≡ true → has_id used q ≡ false → is_some (fin.get old q) ≡ true)
    → ComeOfSeed seed left used old → ComeOfSeed seed left used new
come_within seed left used old new within c = record {
  drawn = c.drawn;
  come = c.come;
  all = λ q there unused. c.all q (within q there unused) unused;
}

-- another store, of which the same ids are used
pub come_used : (seed : List ℕ) (left : Stream) (used other : List Id) (changes : Changes) → other ≡ used → ComeOfSeed seed left used changes → ComeOfSeed seed left other changes
come_used seed left used other changes same c = record {
  drawn = c.drawn;
  come = subst (λ ids. AreIdsOf ids c.drawn (chacha20 seed) left) (sym same) c.come;
  all = λ q there unused. c.all q there (ap (λ ids. has_id ids q) (sym same) ∙ unused);
}

-- a change for an id that the content has
put_within : (used : List Id) (old new : Changes) (content : Option (List ℕ)) (id : Id) (change : Option (List ℕ)) → new ≡ fin.insert old id change → is_some (or_else (fin.get old id) content) ≡ true
    → (is_some content ≡ true → has_id used id ≡ true) → (q : Id) → is_some (fin.get new q) ≡ true → has_id used q ≡ false → is_some (fin.get old q) ≡ true
put_within used old new content id change is there held q some unused =
    elim (same_id q id) as (λ b. same_id q id ≡ b → is_some (cond b (Some change) (fin.get old q)) ≡ true → is_some (fin.get old q) ≡ true) [
      | true ↦ λ same _. subst (λ x. is_some (fin.get old x) ≡ true) (sym (same_id_is q id same))
          (by (fin.get old id) there (ap (has_id used) (sym (same_id_is q id same)) ∙ unused))
      | false ↦ λ _ h. h
    ] refl (ap is_some (sym (ap (λ m. fin.get m q) is ∙ get-insert ids_total old id change q)) ∙ some)
  where
    by : (o : Option (Option (List ℕ))) → is_some (or_else o content) ≡ true → has_id used id ≡ false → is_some o ≡ true
    by (Some c) t u = refl
    by None t u = let bad : false ≡ true = sym u ∙ held t in absurd (cc)

pub come_put : {E : Type 0} (r : Result Unit E) (seed : List ℕ) (left : Stream) (used : List Id) (old new : Changes) (content : Option (List ℕ)) (id : Id) (change : Option (List ℕ))
    → OnOk r (new ≡ fin.insert old id change) → OnErr r (new ≡ old) → is_some (or_else (fin.get old id) content) ≡ true → (is_some content ≡ true → has_id used id ≡ true)
    → ComeOfSeed seed left used old → ComeOfSeed seed left used new
come_put (Ok u) seed left used old new content id change ok err there held c = come_within seed left used old new (put_within used old new content id change ok there held) c
come_put (Err e) seed left used old new content id change ok err there held c = subst (ComeOfSeed seed left used) (sym err) c

-- an id less
pub come_forget : (seed : List ℕ) (left : Stream) (used : List Id) (old new : Changes) (id : Id) → new ≡ fin.remove old id → ComeOfSeed seed left used old → ComeOfSeed seed left used new
come_forget seed left used old new id is c = come_within seed left used old new (λ q some unused. stood q (ap is_some (sym (ap (λ m. fin.get m q) is ∙ get-remove ids_total old id q)) ∙ some)) c
  where
    stood : (q : Id) → is_some (cond (same_id q id) None (fin.get old q)) ≡ true → is_some (fin.get old q) ≡ true
    stood q h = elim (same_id q id) as (λ b. is_some (cond b None (fin.get old q)) ≡ true → is_some (fin.get old q) ≡ true) [
      | true ↦ λ bad. absurd (cc)
      | false ↦ λ k. k
    ] h

-- ---- one more id

pub has-append : (xs ys : List Id) (id : Id) → has_id (xs ++ ys) id ≡ (has_id xs id || has_id ys id)
has-append xs ys id = list_any-append (same_id id) xs ys

-- what isn't free of the changes and the store was drawn or is used
not_free : (seed : List ℕ) (left : Stream) (used : List Id) (changes : Changes) (c : ComeOfSeed seed left used changes) (q : Id) → is_free (fin.keys changes ++ used) q ≡ false → is_free (c.drawn ++ used) q ≡ false
not_free seed left used changes c q taken = by (has_id used q) refl (is_some (fin.get changes q)) refl
  where
    zero : Bool
    zero = same_id q zero_id

    told : (not (is_some (fin.get changes q) || has_id used q) && not zero) ≡ false
    told = ap (λ b. not b && not zero) (sym (has_id-over changes used q)) ∙ taken

    shown : (x y : Bool) → has_id c.drawn q ≡ x → has_id used q ≡ y → is_free (c.drawn ++ used) q ≡ (not (x || y) && not zero)
    shown x y e f = ap (λ b. not b && not zero) (has-append c.drawn used q ∙ (ap (λ b. b || has_id used q) e ∙ ap (λ b. x || b) f))

    over_true : (x : Bool) → (not (x || true) && not zero) ≡ false
    over_true true = refl
    over_true false = refl

    by : (u : Bool) → has_id used q ≡ u → (s : Bool) → is_some (fin.get changes q) ≡ s → is_free (c.drawn ++ used) q ≡ false
    by true u s e = shown (has_id c.drawn q) true refl u ∙ over_true (has_id c.drawn q)
    by false u true e = shown true false (c.all q e u) u
    by false u false e = last (has_id c.drawn q) refl
      where
        zeroed : (not zero) ≡ false
        zeroed = ap (λ b. not b && not zero) (sym (ap (λ b. b || has_id used q) e ∙ u)) ∙ told

        last : (x : Bool) → has_id c.drawn q ≡ x → is_free (c.drawn ++ used) q ≡ false
        last true d = shown true false d u
        last false d = shown false false d u ∙ zeroed

passed_by : (seed : List ℕ) (left : Stream) (used : List Id) (changes : Changes) (c : ComeOfSeed seed left used changes) (drawn id : Id) → IsFirstFree (is_free (fin.keys changes ++ used)) drawn id
    → PassedOver (is_free (c.drawn ++ used)) drawn id
passed_by seed left used changes c drawn id f = record { steps = f.steps; reached = f.reached; first = λ n lt. not_free seed left used changes c (nth_id drawn n) (f.first n lt) }

-- an id was drawn, by what a fill's contract says, and got a change or did not
pub come_add : {E : Type 0} (r : Result Unit E) (seed : List ℕ) (left after : Stream) (used : List Id) (old new : Changes) (drawn id : Id) (change : Option (List ℕ)) (c : ComeOfSeed seed left used old)
    → (drawn, after) ≡ fill_bytes 16 left → IsFirstFree (is_free (fin.keys old ++ used)) drawn id → OnOk r (new ≡ fin.insert old id change) → OnErr r (new ≡ old) → ComeOfSeed seed after used new
come_add {E = E} r seed left after used old new drawn id change c filled first ok err = record {
  drawn = id ∷ c.drawn;
  come = (
    left,
    c.come,
    subst (λ d. PassedOver (is_free (c.drawn ++ used)) d id) (ap (λ (x : Id × Stream). x.0) filled) (passed_by seed left used old c drawn id first),
    ap (λ (x : Id × Stream). x.1) filled,
  );
  all = λ q some unused. by r ok err q some unused;
}
  where
    by : (s : Result Unit E) → OnOk s (new ≡ fin.insert old id change) → OnErr s (new ≡ old) → (q : Id) → is_some (fin.get new q) ≡ true → has_id used q ≡ false → (same_id q id || has_id c.drawn q) ≡ true
    by (Err e) k same q some unused = or_right (same_id q id) (has_id c.drawn q) (c.all q (ap is_some (ap (λ m. fin.get m q) (sym same)) ∙ some) unused)
    by (Ok u) put k q some unused =
        elim (same_id q id) as (λ b. is_some (cond b (Some change) (fin.get old q)) ≡ true → (b || has_id c.drawn q) ≡ true) [
          | true ↦ λ _. refl
          | false ↦ λ h. c.all q h unused
        ] (ap is_some (sym (ap (λ m. fin.get m q) put ∙ get-insert ids_total old id change q)) ∙ some)
