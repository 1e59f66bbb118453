-- What is cached once the changes of a batch were followed, one after another.
use Rattle.std.proofs.Common.{◌≡◌, ◌⊎◌, ℕ, Bool, true, false, cond, nat_eq, List, ◌∷◌, refl, sym, ◌∙◌, ap, subst, inl, inr}
use Rattle.std.specs.Prelude.{T, Option, Some, None, is_some}
use Rattle.std.specs.FinMap as fin
use Rattle.std.specs.FinMap.{is_sorted, entries_sorted, get-entries}
use Rattle.std.specs.FinMap.Entries.{find, below_all}
use Rattle.std.specs.Cmp.{Equal-is}
use Rattle.std.specs.Cmp.Lexicographic.{pointwise, texts_ties}
use Rattle.block_id.proofs.Conditions.{left, right}
use Rattle.block_id.proofs.Options.{none_is}
use Rattle.store_api.specs.Content.{Id, id_cmp, same_id, Changes}
use Rattle.store_api.proofs.Rising.{ids_total, not_below}
use Rattle.block_cache.specs.Payloads.{Payloads, cached_for, Renewed, RenewedOne}

abbrev pub Plain : Type 0
Plain = List (Id × Option (List ℕ))

-- What was followed, where these changes are left: they are the batch's, in order, and what is cached for other ids is renewed.
pub record Renewing (changes : Changes) (rest : Plain) (old new : Payloads) : Type 0 where
  pub rises : T (is_sorted id_cmp rest)
  pub own : (id : Id) → is_some (find id_cmp id rest) ≡ true → find id_cmp id rest ≡ fin.get changes id
  pub renewed : (id : Id) → Renewed (cond (is_some (find id_cmp id rest)) None (fin.get changes id)) (cached_for old id) (cached_for new id)
  pub capacity : new.cap ≡ old.cap

waiting : (o : Option (Option (List ℕ))) (now : Option (List ℕ)) → Renewed (cond (is_some o) None o) now now
waiting None now = refl
waiting (Some change) now = refl

-- before the first change
pub renewing-start : (changes : Changes) (es : Plain) (now : Payloads) → es ≡ fin.entries changes → Renewing changes es now now
renewing-start changes es now are =
    let found : (id : Id) → find id_cmp id es ≡ fin.get changes id = λ id. ap (find id_cmp id) are ∙ sym (get-entries changes id) in
    record {
      rises = subst (λ xs. T (is_sorted id_cmp xs)) (sym are) (entries_sorted changes);
      own = λ id there. found id;
      renewed = λ id. subst (λ o. Renewed (cond (is_some o) None (fin.get changes id)) (cached_for now id) (cached_for now id)) (sym (found id)) (waiting (fin.get changes id) (cached_for now id));
      capacity = refl;
    }

-- one more change
pub renewing-step : (changes : Changes) (e : Id × Option (List ℕ)) (rest : Plain) (old now new : Payloads) → Renewing changes (e ∷ rest) old now
    → ((other : Id) → RenewedOne e.0 e.1 now new other) → new.cap ≡ now.cap → Renewing changes rest old new
renewing-step changes e rest old now new so one same = record {
  rises = right (below_all id_cmp e.0 rest) (is_sorted id_cmp rest) so.rises;
  own = λ id there. elim (same_id id e.0) as (λ b. same_id id e.0 ≡ b → (is_some (cond b (Some e.1) (find id_cmp id rest)) ≡ true → cond b (Some e.1) (find id_cmp id rest) ≡ fin.get changes id) → find id_cmp id rest ≡ fin.get changes id) [
    | true ↦ λ s h. absurd (none_is (find id_cmp id rest) (gone id s) there)
    | false ↦ λ s h. h there
  ] refl (so.own id);
  renewed = λ id. elim (same_id id e.0) as (λ b. same_id id e.0 ≡ b → (is_some (cond b (Some e.1) (find id_cmp id rest)) ≡ true → cond b (Some e.1) (find id_cmp id rest) ≡ fin.get changes id)
      → Renewed (cond (is_some (cond b (Some e.1) (find id_cmp id rest))) None (fin.get changes id)) (cached_for old id) (cached_for now id)
      → Renewed (cond b (Some e.1) None) (cached_for now id) (cached_for new id) → Renewed (cond (is_some (find id_cmp id rest)) None (fin.get changes id)) (cached_for old id) (cached_for new id)) [
        | true ↦ λ s h before now. subst (λ o. Renewed (cond (is_some o) None (fin.get changes id)) (cached_for old id) (cached_for new id)) (sym (gone id s))
            (subst (λ o. Renewed o (cached_for old id) (cached_for new id)) (h refl) now)
        | false ↦ λ s h before now. subst (λ x. Renewed (cond (is_some (find id_cmp id rest)) None (fin.get changes id)) (cached_for old id) x) (sym now) before
      ] refl (so.own id) (so.renewed id) (one id);
  capacity = same ∙ so.capacity;
}
  where
    gone : (id : Id) → same_id id e.0 ≡ true → find id_cmp id rest ≡ None
    gone id s = not_below ids_total id e.0 rest ((Equal-is (id_cmp id e.0)).0 s) (left (below_all id_cmp e.0 rest) (is_sorted id_cmp rest) so.rises)

-- what is cached for an id is a change's payload, or nothing
pub renewed_as : (id other : Id) (change value old new : Option (List ℕ)) → new ≡ cond (pointwise nat_eq other id) value old → (value ≡ None) ⊎ (value ≡ change)
    → Renewed (cond (same_id other id) (Some change) None) old new
renewed_as id other change value old new is of = cases (same_id other id) (is ∙ ap (λ b. cond b value old) (texts_ties other id))
  where
    cases : (b : Bool) → new ≡ cond b value old → Renewed (cond b (Some change) None) old new
    cases true here = elim of [ inl none ↦ inl (here ∙ none) | inr same ↦ inr (here ∙ same) ]
    cases false here = here
