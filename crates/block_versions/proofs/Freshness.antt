-- Ids that are free of what is known are free of the used ids.
use Rattle.std.specs.Prelude.{◌≡◌, ℕ, zero, suc, not, ◌&&◌, List, is_some, is_none, refl}
use Rattle.std.proofs.Common.{sym, ◌∙◌, ap}
use Rattle.std.proofs.lemmas.Map.Text.{is_eq-slice_cmp}
use Rattle.std.specs.FinMap as fin
use Rattle.std.specs.FinMap.{contains_key-keys}
use Rattle.std.specs.declared.option.Option.{Option}
use Rattle.std.specs.declared.option.Option.TheVariants.{None, Some}
use Rattle.block_id.specs.Name.{next_id}
use Rattle.block_id.specs.Fresh as ids
use Rattle.local_state.specs.declared.life.Life.{Life}
use Rattle.local_state.specs.Known as known
use Rattle.store_api.specs.Content.{same_id}
use Rattle.store_api.specs.Holdings.{is_free}

same_steps : (drawn : List ℕ) (n : ℕ) → known.nth_id drawn n ≡ ids.nth_id drawn n
same_steps drawn zero = refl
same_steps drawn (suc n) = ap next_id (same_steps drawn n)

none_not : (o : Option Life) → not (is_some o) ≡ is_none o
none_not None = refl
none_not (Some life) = refl

same_free : (lives : known.Lives) (id : List ℕ) → is_free (fin.keys lives) id ≡ known.is_free lives id
same_free lives id =
    ap (λ b. not b && not (same_id id ids.zero_id)) (sym (contains_key-keys lives id))
    ∙ ap (λ b. b && not (same_id id ids.zero_id)) (none_not (fin.get lives id))
    ∙ ap (λ b. is_none (fin.get lives id) && not b) (is_eq-slice_cmp id ids.zero_id)

pub first_free : (lives : known.Lives) (drawn id : List ℕ) → known.IsFirstFree lives drawn id → ids.IsFirstFree (is_free (fin.keys lives)) drawn id
first_free lives drawn id f = record {
  free = same_free lives id ∙ f.free;
  steps = f.steps;
  reached = f.reached ∙ same_steps drawn f.steps;
  first = λ n lt. same_free lives (ids.nth_id drawn n) ∙ ap (known.is_free lives) (sym (same_steps drawn n)) ∙ f.first n lt;
}
