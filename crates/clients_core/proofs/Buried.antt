-- A block that is buried keeps its version.
use Rattle.std.proofs.Common.{◌≡◌, ℕ, true, false, List, refl, sym, ap, ◌∙◌, inl, inr}
use Rattle.std.specs.Prelude.{IfSome}
use Rattle.std.specs.Option.{option_map, option_map_or}
use Rattle.std.specs.declared.option.Option.TheVariants.{None, Some}
use Rattle.std.specs.FinMap as fin
use Rattle.local_state.specs.declared.life.Life.{Life}
use Rattle.local_state.specs.Known.{Lives}
use Rattle.clients_core.specs.TakenAll.{SameVersions}
use Rattle.clients_core.proofs.Lists.{ids_same_or_not}
use Rattle.clients_core.proofs.Numbers.{life_same, life_apart}

false_is_true : false ≡ true → ⊥
false_is_true e = cc

abbrev buried : ℕ → Life
buried version = record { version = version; live = false }

pub buried_same : (old new : Lives) (id : List ℕ) → option_map_or (λ m. m.live) (fin.get old id) false ≡ true
    → IfSome (option_map (λ m. m.version) (fin.get old id)) (λ version. new ≡ fin.insert old id (buried version)) → SameVersions old new
buried_same old new id live after q =
    elim (fin.get old id) as (λ o. fin.get old id ≡ o → option_map_or (λ m. m.live) o false ≡ true → IfSome (option_map (λ m. m.version) o) (λ version. new ≡ fin.insert old id (buried version))
    → option_map (λ life. life.version) (fin.get new q) ≡ option_map (λ life. life.version) (fin.get old q)) [
      | None ↦ λ e live after. absurd (false_is_true live)
      | Some life ↦ λ e live after.
          ap (λ (m : Lives). option_map (λ life. life.version) (fin.get m q)) after ∙ elim (ids_same_or_not q id) [
            | inl same ↦
                ap (λ (x : List ℕ). option_map (λ life. life.version) (fin.get (fin.insert old id (buried life.version)) x)) same
                ∙ ap (option_map (λ (l : Life). l.version)) (life_same old id (buried life.version))
                ∙ sym (ap (option_map (λ (l : Life). l.version)) e)
                ∙ ap (λ (x : List ℕ). option_map (λ life. life.version) (fin.get old x)) (sym same)
            | inr apart ↦ ap (option_map (λ (l : Life). l.version)) (life_apart old id q (buried life.version) apart)
          ]
    ] refl live after
