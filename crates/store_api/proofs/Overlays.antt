-- What the changes of a store owe it, as they and it change.
use Rattle.std.proofs.Common.{◌≡◌, ◌⊎◌, ℕ, Bool, true, false, List, length, refl, sym, ◌∙◌, ap, subst, inl, inr}
use Rattle.std.specs.Prelude.{Result, Ok, Err, OnOk, OnErr, not, cond, ◌&&◌, ◌||◌, ◌++◌, is_some, Option, Some, None}
use Rattle.std.specs.FinMap as fin
use Rattle.std.specs.FinMap.{get-empty, get-insert, get-remove}
use Rattle.std.proofs.lemmas.Option.{none-some}
use Rattle.block_id.specs.Fresh.{zero_id}
use Rattle.store_api.specs.Content.{Id, id_cmp, same_id, Changes, or_else, over}
use Rattle.store_api.specs.Holdings.{Holdings, FitsStore, IsFew, MayGet, Stays, has_id, is_free}
use Rattle.store_api.specs.Ids.{Drawn}
use Rattle.store_api.specs.Overlay.{Overlaid, has_id-over}
use Rattle.store_api.proofs.Ids.{come_used}
use Rattle.store_api.proofs.Rising.{ids_total, same_id_is}

pub fits_nothing : {S : Type 0} (H : Holdings S) (s : S) → FitsStore H s fin.empty
fits_nothing H s = record {
  sized = λ id bytes e. absurd (none-some (Some bytes) (sym (get-empty id_cmp id) ∙ e));
  gets = λ id bytes e. absurd (none-some (Some bytes) (sym (get-empty id_cmp id) ∙ e));
  removes = λ id e. absurd (none-some None (sym (get-empty id_cmp id) ∙ e));
}

may_get-stays : {S : Type 0} (H : Holdings S) (a b : S) (id : Id) → Stays H a b → MayGet H a id → MayGet H b id
may_get-stays H a b id stays (inl there) = inl (stays.ids id ∙ there)
may_get-stays H a b id stays (inr free) = inr (ap (λ used. is_free used id) stays.used ∙ free)

pub fits-stays : {S : Type 0} (H : Holdings S) (a b : S) (changes : Changes) → Stays H a b → FitsStore H a changes → FitsStore H b changes
fits-stays H a b changes stays fits = record {
  sized = λ id bytes e. fits.sized id bytes e ∙ sym stays.payload;
  gets = λ id bytes e. may_get-stays H a b id stays (fits.gets id bytes e);
  removes = λ id e. stays.ids id ∙ fits.removes id e;
}

-- the changes over a store stay such while blocks are loaded from it
pub overlaid-stays : {S : Type 0} (H : Holdings S) (a b : S) (changes : Changes) (drawn : Drawn) → Stays H a b → Overlaid H a changes drawn → Overlaid H b changes drawn
overlaid-stays H a b changes drawn stays o = record {
  fits = fits-stays H a b changes stays o.fits;
  few = subst IsFew (sym stays.used) o.few;
  ids = come_used drawn.seed drawn.left (H.used a) (H.used b) changes stays.used o.ids;
}

-- what the changes let an id get, the store below lets it get
below : {S : Type 0} (H : Holdings S) (s : S) (changes : Changes) (id : Id) → FitsStore H s changes → (o : Option (Option (List ℕ))) → fin.get changes id ≡ o
    → (is_some (or_else o (H.content s id)) ≡ true) ⊎ (is_free (fin.keys changes ++ H.used s) id ≡ true) → MayGet H s id
below H s changes id fits (Some (Some bytes)) e may = fits.gets id bytes e
below H s changes id fits (Some None) e (inl there) = absurd (cc)
below H s changes id fits None e (inl there) = inl there
below H s changes id fits o e (inr free) = inr (parts (is_some (fin.get changes id)) (has_id (H.used s) id) (not (same_id id zero_id)) (ap (λ b. not b && not (same_id id zero_id)) (sym (has_id-over changes (H.used s) id)) ∙ free))
  where
    parts : (a b c : Bool) → (not (a || b) && c) ≡ true → (not b && c) ≡ true
    parts true b c h = absurd (cc)
    parts false b c h = h

-- an entry of a map with one more is the new one or an old one
entry_cases : (changes : Changes) (id : Id) (change : Option (List ℕ)) (q : Id) (c : Option (List ℕ)) → fin.get (fin.insert changes id change) q ≡ Some c
    → ((q ≡ id) × (change ≡ c)) ⊎ (fin.get changes q ≡ Some c)
entry_cases changes id change q c e =
    elim (same_id q id) as (λ b. same_id q id ≡ b → cond b (Some change) (fin.get changes q) ≡ Some c → ((q ≡ id) × (change ≡ c)) ⊎ (fin.get changes q ≡ Some c)) [
      | true ↦ λ s h. inl (same_id_is q id s, own change c h)
      | false ↦ λ s h. inr h
    ] refl (sym (get-insert ids_total changes id change q) ∙ e)
  where
    own : (x y : Option (List ℕ)) → Some x ≡ Some y → x ≡ y
    own x y h = cc

pub fits-put : {S : Type 0} (H : Holdings S) (s : S) (changes : Changes) (id bytes : List ℕ) → FitsStore H s changes → length bytes ≡ H.payload s
    → (is_some (over changes (H.content s) id) ≡ true) ⊎ (is_free (fin.keys changes ++ H.used s) id ≡ true) → FitsStore H s (fin.insert changes id (Some bytes))
fits-put H s changes id bytes fits sized may = record {
  sized = λ q other e. elim (entry_cases changes id (Some bytes) q (Some other) e) [
    | inl new ↦ ap length (sym (own bytes other new.1)) ∙ sized
    | inr old ↦ fits.sized q other old
  ];
  gets = λ q other e. elim (entry_cases changes id (Some bytes) q (Some other) e) [
    | inl new ↦ subst (MayGet H s) (sym new.0) (below H s changes id fits (fin.get changes id) refl may)
    | inr old ↦ fits.gets q other old
  ];
  removes = λ q e. elim (entry_cases changes id (Some bytes) q None e) [
    | inl new ↦ absurd (none-some bytes (sym new.1))
    | inr old ↦ fits.removes q old
  ];
}
  where
    own : (x y : List ℕ) → Some x ≡ Some y → x ≡ y
    own x y h = cc

-- after one more change was set, or was not
pub fits-put_or_not : {E : Type 0} (r : Result Unit E) {S : Type 0} (H : Holdings S) (s : S) (old new : Changes) (id bytes : List ℕ)
    → OnOk r (new ≡ fin.insert old id (Some bytes)) → OnErr r (new ≡ old) → FitsStore H s old → length bytes ≡ H.payload s
    → (is_some (over old (H.content s) id) ≡ true) ⊎ (is_free (fin.keys old ++ H.used s) id ≡ true) → FitsStore H s new
fits-put_or_not (Ok u) H s old new id bytes ok err fits sized may = subst (FitsStore H s) (sym ok) (fits-put H s old id bytes fits sized may)
fits-put_or_not (Err e) H s old new id bytes ok err fits sized may = subst (FitsStore H s) (sym err) fits

pub or_true : (r a b : Bool) → r ≡ true → r ≡ a → r ≡ (a || b)
or_true r true b t e = t
or_true r false b t e = absurd (cc)

pub or_false : (r a b : Bool) → r ≡ false → r ≡ a → b ≡ (a || b)
or_false r true b t e = absurd (cc)
or_false r false b t e = refl

-- an entry of a map with one fewer is an old one of another id
entry_left : (changes : Changes) (id q : Id) (c : Option (List ℕ)) → fin.get (fin.remove changes id) q ≡ Some c → fin.get changes q ≡ Some c
entry_left changes id q c e =
    elim (same_id q id) as (λ b. cond b None (fin.get changes q) ≡ Some c → fin.get changes q ≡ Some c) [
      | true ↦ λ h. absurd (none-some c h)
      | false ↦ λ h. h
    ] (sym (get-remove ids_total changes id q) ∙ e)

pub fits-forget : {S : Type 0} (H : Holdings S) (s : S) (changes : Changes) (id : Id) → FitsStore H s changes → FitsStore H s (fin.remove changes id)
fits-forget H s changes id fits = record {
  sized = λ q bytes e. fits.sized q bytes (entry_left changes id q (Some bytes) e);
  gets = λ q bytes e. fits.gets q bytes (entry_left changes id q (Some bytes) e);
  removes = λ q e. fits.removes q (entry_left changes id q None e);
}

-- what the changes show of a used id, the store has
shown : {S : Type 0} (H : Holdings S) (s : S) (changes : Changes) (id : Id) → FitsStore H s changes → has_id (H.used s) id ≡ true → (o : Option (Option (List ℕ))) → fin.get changes id ≡ o
    → is_some (or_else o (H.content s id)) ≡ true → is_some (H.content s id) ≡ true
shown H s changes id fits used None e h = h
shown H s changes id fits used (Some None) e h = absurd (cc)
shown H s changes id fits used (Some (Some bytes)) e h = elim (fits.gets id bytes e) [
  | inl there ↦ there
  | inr free ↦ absurd (never (has_id (H.used s) id) (not (same_id id zero_id)) used free)
]
  where
    never : (a b : Bool) → a ≡ true → (not a && b) ≡ true → ⊥
    never true b e h = absurd (cc)
    never false b e h = absurd (cc)

pub fits-remove : {S : Type 0} (H : Holdings S) (s : S) (changes : Changes) (id : Id) → FitsStore H s changes → has_id (H.used s) id ≡ true → is_some (over changes (H.content s) id) ≡ true → FitsStore H s (fin.insert changes id None)
fits-remove H s changes id fits used there = record {
  sized = λ q bytes e. elim (entry_cases changes id None q (Some bytes) e) [
    | inl new ↦ absurd (none-some bytes new.1)
    | inr old ↦ fits.sized q bytes old
  ];
  gets = λ q bytes e. elim (entry_cases changes id None q (Some bytes) e) [
    | inl new ↦ absurd (none-some bytes new.1)
    | inr old ↦ fits.gets q bytes old
  ];
  removes = λ q e. elim (entry_cases changes id None q None e) [
    | inl new ↦ subst (λ x. is_some (H.content s x) ≡ true) (sym new.0) (shown H s changes id fits used (fin.get changes id) refl there)
    | inr old ↦ fits.removes q old
  ];
}

pub fits-remove_or_not : {E : Type 0} (r : Result Unit E) {S : Type 0} (H : Holdings S) (s : S) (old new : Changes) (id : Id)
    → OnOk r (new ≡ fin.insert old id None) → OnErr r (new ≡ old) → FitsStore H s old → has_id (H.used s) id ≡ true → is_some (over old (H.content s) id) ≡ true → FitsStore H s new
fits-remove_or_not (Ok u) H s old new id ok err fits used there = subst (FitsStore H s) (sym ok) (fits-remove H s old id fits used there)
fits-remove_or_not (Err e) H s old new id ok err fits used there = subst (FitsStore H s) (sym err) fits
