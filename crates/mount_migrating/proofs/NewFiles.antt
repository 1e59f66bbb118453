-- What a file of the newest format stays through loads, batches and syncs.
use Rattle.std.proofs.Common.{◌≡◌, ◌⊎◌, ℕ, true, List, [], refl, sym, ◌∙◌, ap, subst, inl, inr}
use Rattle.std.specs.FinMap as fin
use Rattle.std.specs.declared.option.Option.{Option}
use Rattle.std.specs.declared.option.Option.TheVariants.{None, Some}
use Rattle.std.proofs.lemmas.Option.{same_Some, none-some}
use Rattle.mount_answering.specs.store_outcome.Meanings.{Meanings}
use Rattle.outside.specs.Changes.{FileChanges, IsIncreasing, change_at}
use Rattle.outside.specs.Going.{GoesOn, goes_on_writes}
use Rattle.outside.specs.Honest.{last_change}
use Rattle.outside.specs.Trace.{At, Call, block}
use Rattle.outside.specs.WriteLaws.{after_told, last_after, last_of}
use Rattle.outside.specs.Writes.{after_writes}
use Rattle.mount_answering.specs.record_saver.Saving.{Wrote}
use Rattle.mount_answering.specs.store_api.Content.{Id, Changes}
use Rattle.mount_answering.specs.store_api.Durables.{Durables, Records, Enduring, IsLastNew, IsNewFile, WasLastNew, last_told}
use Rattle.mount_answering.specs.store_api.Holdings.{Holdings}
use Rattle.mount_migrating.proofs.Batches.{one, one_says}

-- calls that don't change the file
was_on : (is_new : List ℕ → Type 0) (name : At) (a b : Option (List Call)) → GoesOn a b → last_told name b ≡ last_told name a → WasLastNew is_new name a → WasLastNew is_new name b
was_on is_new name None b on same was = subst (λ t. WasLastNew is_new name t) (sym on) tt
was_on is_new name (Some t) b on same was =
    subst (λ x. WasLastNew is_new name x) (sym on.1) (subst (λ l. IsLastNew is_new l) (sym (ap (last_told name) (sym on.1) ∙ same)) was)

-- what waited was written
was_written : (is_new : List ℕ → Type 0) (name : At) (list : FileChanges) (trace : Option (List Call)) → IsIncreasing list
    → ((change : Option (List ℕ)) → change_at name list ≡ Some change → (bytes : List ℕ) × (change ≡ Some bytes) × is_new bytes) → (change_at name list ≡ None → WasLastNew is_new name trace)
    → WasLastNew is_new name (after_writes list trace)
was_written is_new name list None rises waits was = subst (λ t. WasLastNew is_new name t) (sym (goes_on_writes list None)) tt
was_written is_new name list (Some t) rises waits was =
    subst (λ x. WasLastNew is_new name x) (sym (after_told list t)) (subst (λ l. IsLastNew is_new l) (sym (last_after name list t rises)) (by (change_at name list) refl))
  where
    by : (at : Option (Option (List ℕ))) → change_at name list ≡ at → IsLastNew is_new (last_of at (last_change name t))
    by None e = was e
    by (Some change) e = let n = waits change e in (n.0, true, ap (λ bytes. Some (record { bytes = bytes; ok = true })) n.1, n.2)

module _ {S : Type 0} (M : Meanings S) (H : Holdings S) (applied : S → S → Changes → Type 0) (D : Durables S) (R : Records) (endures : Enduring M H applied D R) where
  pub new_loaded : (a b : S) (id : Id) → M.loaded a b → IsNewFile D a id → IsNewFile D b id
  new_loaded a b id loaded n =
      let list = endures.loaded_list a b loaded in
      record {
        waiting = λ change e. n.waiting change (ap (change_at (block id)) (sym list) ∙ e);
        written = λ none. was_on D.is_new (block id) (D.trace a) (D.trace b) (endures.loaded_goes_on a b loaded) (endures.loaded_last a b (block id) loaded) (n.written (ap (change_at (block id)) (sym list) ∙ none));
      }

  -- each payload of a batch waits so
  pub new_given : (a b : S) (id : Id) (payload : List ℕ) → applied a b (one id payload) → fin.get (one id payload) id ≡ Some (Some payload) → IsNewFile D b id
  new_given a b id payload change given =
      let waits = endures.applied_new a b (one id payload) id payload change given in
      record {
        waiting = λ change e. (waits.0, same_Some _ _ (sym e ∙ waits.1), waits.2);
        written = λ none. absurd (none-some (Some waits.0) (sym none ∙ waits.1));
      }

  -- and what it doesn't name waits as before
  pub new_applied : (a b : S) (id other : Id) (payload : List ℕ) → applied a b (one id payload) → IsNewFile D a other → IsNewFile D b other
  new_applied a b id other payload change n = by (fin.get (one id payload) other) refl
    where
      by : (at : Option (Option (List ℕ))) → fin.get (one id payload) other ≡ at → IsNewFile D b other
      by None e =
          let rest = endures.applied_rest a b (one id payload) other change e in
          record {
            waiting = λ change e. n.waiting change (sym rest ∙ e);
            written = λ none. subst (λ t. WasLastNew D.is_new (block other) t) (sym (endures.applied_trace a b (one id payload) change)) (n.written (sym rest ∙ none));
          }
      by (Some given) e =
          let is = one_says id other payload given e in
          subst (λ x. IsNewFile D b x) (sym is.0) (new_given a b id payload change (ap (λ x. fin.get (one id payload) x) (sym is.0) ∙ (e ∙ ap Some is.1)))

  -- all that waited was written, or nothing was done
  pub new_synced : (a b : S) (id : Id) → M.intact a → (b ≡ a) ⊎ Wrote D a b → D.list b ≡ [] → IsNewFile D a id → IsNewFile D b id
  new_synced a b id intact (inl same) none n = subst (λ s. IsNewFile D s id) (sym same) n
  new_synced a b id intact (inr (inl stops)) none n = absurd (cc (sym none ∙ stops.stays))
  new_synced a b id intact (inr (inr wrote)) none n = record {
    waiting = λ change e. absurd (none-some change (ap (change_at (block id)) (sym none) ∙ e));
    written = λ free. subst (λ t. WasLastNew D.is_new (block id) t) (sym wrote.0) (was_written D.is_new (block id) (D.list a) (D.trace a) (endures.in_order a intact) n.waiting n.written);
  }

  -- the list and the trace are as they were
  pub new_same : (a b : S) (id : Id) → D.list b ≡ D.list a → D.trace b ≡ D.trace a → IsNewFile D a id → IsNewFile D b id
  new_same a b id list trace n = record {
    waiting = λ change e. n.waiting change (ap (change_at (block id)) (sym list) ∙ e);
    written = λ none. subst (λ t. WasLastNew D.is_new (block id) t) (sym trace) (n.written (ap (change_at (block id)) (sym list) ∙ none));
  }
