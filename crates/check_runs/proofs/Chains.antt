-- Loads over a store with nothing to be written.
use Rattle.std.proofs.Common.{◌≡◌, ℕ, List, [], ◌∷◌, ◌+◌, refl, ◌∙◌, ap, subst}
use Rattle.std.specs.declared.option.Option.{Option}
use Rattle.std.specs.declared.option.Option.TheVariants.{None, Some}
use Rattle.std.specs.declared.result.Result.TheVariants.{Ok}
use Rattle.check_walk.specs.Given.{Given, GaveBy}
use Rattle.block_versions.specs.Held.{Held, live_version, waiting}
use Rattle.block_versions.specs.Loads.{LoadAnswers, loads_by}
use Rattle.outside.specs.Changes.{change_at}
use Rattle.outside.specs.Trace.{block, Call}
use Rattle.block_versions.specs.redo_vault.Redo.{Gave}
use Rattle.block_versions.specs.store_api.Content.{Id}
use Rattle.check_runs.specs.Reads.{IsGivenBy, GivesReads}

given_by : (h : Held) (old new : Option (List Call)) (id : Id) (payload : List ℕ) → h.list ≡ [] → (v : Option ℕ) → live_version h id ≡ v → LoadAnswers h old new id v (Ok (Some payload)) → IsGivenBy h old new id payload
given_by h old new id payload empty None live judged = absurd judged
given_by h old new id payload empty (Some version) live (file, came, good) =
    let none : waiting h id ≡ None = ap (change_at (block id)) empty in
    record { version = version; live = live; file = file; read = subst (λ w. Gave w old new (block id) (h.size + 1) file) none came; judged = good }

module _ {T : Type 0} (held : T → Held) (trace : T → Option (List Call)) where
  pub reads_of : (a b : T) (given : Given) → (held a).list ≡ [] → GaveBy (loads_by held trace) a given b → (held b ≡ held a) × GivesReads (held a) (trace a) given (trace b)
  reads_of a b [] empty same = (ap held same, ap trace same)
  reads_of a b (g ∷ gs) empty (mid, (before, load)) =
      let one = reads_of a mid gs empty before in
      let judged = subst (λ h. LoadAnswers h (trace mid) (trace b) g.0 (live_version h g.0) (Ok (Some g.1))) one.0 load.judged in
      (load.held ∙ one.0, (trace mid, (one.1, given_by (held a) (trace mid) (trace b) g.0 g.1 empty (live_version (held a) g.0) refl judged)))
