-- What a replacement of the configuration's file seals: no block.
use Rattle.std.proofs.Common.{◌≡◌, ◌⊎◌, ℕ, true, List, [], sym, ◌∙◌, subst, inl, inr}
use Rattle.std.specs.declared.option.Option.TheVariants.{Some}
use Rattle.mount.specs.Sealing.{View, AddsSealed, AreSealed}
use Rattle.mount.specs.SealingLaws.{adds_nothing, comes_waiting}
use Rattle.mount.proofs.Sealing.{wrote_sealed}
use Rattle.mount_migrating.specs.mount_answering.Replacing.{ReplaceWrites}
use Rattle.mount_opening.specs.record_saver.Saving.{World}
use Rattle.mount_opening.specs.store_api.Holdings.{has_id}
use Rattle.mount_opening.specs.store_api.Lists.{with_config}
use Rattle.outside.specs.Changes.{IsIncreasing, change_at}

module _ {S : Type 0} {K : Type 0} (W : World S K) (store after : S) (bytes : List ℕ) (rises : (s : S) → W.meanings.intact s → IsIncreasing (W.durables.list s)) (used : W.holdings.used after ≡ W.holdings.used store) where
  abbrev view_in : S → View
  view_in s = record { list = W.durables.list s; calls = W.durables.trace s; known = W.holdings.used s }

  abbrev Waiting : View
  Waiting = record { list = with_config bytes (W.durables.list store); calls = W.durables.trace store; known = W.holdings.used store }

  pub replaced_sealed : ReplaceWrites W store bytes after → AreSealed [] (view_in store) (view_in after) ⊎ AreSealed [] Waiting (view_in after)
  replaced_sealed (inl (list, trace)) = inl (record {
    waits = λ name change is. comes_waiting (view_in store) name change (subst (λ l. change_at name l ≡ Some change) list is);
    adds = subst (AddsSealed [] (view_in store) (W.durables.trace store)) (sym trace) (adds_nothing [] (view_in store) (W.durables.trace store));
    known = λ id has. subst (λ k. has_id k id ≡ true) used has;
  })
  replaced_sealed (inr (waiting, of, intact, wrote)) =
      let same : view_in waiting ≡ Waiting = λ i. record { list = of.list i; calls = of.trace i; known = of.stays.used i } in
      inr (subst (λ v. AreSealed [] v (view_in after)) same (wrote_sealed W.durables W.holdings.used waiting after (rises waiting intact) (used ∙ sym of.stays.used) wrote))
