-- Loads over a store of sealed files, by the calls on its directory alone.
use Rattle.std.proofs.Common.{◌≡◌, ◌∙◌, ◌-◌, ℕ, List, [], ◌∷◌, refl, ap, subst}
use Rattle.std.specs.declared.option.Option.{Option}
use Rattle.check_walk.specs.Given.{Asked, AskedBy}
use Rattle.check_walk.specs.declared.flaw.Flaw.{Flaw}
use Rattle.check_refused.specs.check_rules.Certificates.{Owners}
use Rattle.check_refused.specs.cryfs_check.Checks.{AsksOnce, IsCertified, IsRefuted}
use Rattle.check_runs.proofs.Chains.{reads_of}
use Rattle.block_versions.specs.Held.{Held, live_version}
use Rattle.block_versions.specs.Loads.{LoadAnswers, loads_by}
use Rattle.block_versions.specs.local_state.Known.{live_ids}
use Rattle.outside.specs.Trace.{Call}
use Rattle.block_versions.specs.store_api.Content.{Id}
use Rattle.block_versions.specs.store_api.Loads.{LoadAnswer}
use Rattle.check_runs.specs.Judging.{read_by, IsProven}

module _ {T : Type 0} (held : T → Held) (trace : T → Option (List Call)) where
  one_read : (h : Held) (a b : T) (id : Id) (answer : LoadAnswer) → held a ≡ h → loads_by held trace a b id answer → read_by h (trace a) (trace b) id answer
  one_read h a b id answer e load = record { held = refl; judged = subst (λ (k : Held). LoadAnswers k (trace a) (trace b) id (live_version k id) answer) e load.judged }

  pub chained : (a b : T) (asked : Asked) → AskedBy (loads_by held trace) a asked b → (held b ≡ held a) × AskedBy (read_by (held a)) (trace a) asked (trace b)
  chained a b [] same = (ap held same, ap trace same)
  chained a b (q ∷ qs) (mid, (before, load)) =
      let one = chained a mid qs before in
      (load.held ∙ one.0, (trace mid, (one.1, one_read (held a) mid b q.0 q.1 one.0 load)))

  pub asked_once : (live : List Id) (a b : T) → AsksOnce (loads_by held trace) live a b → AsksOnce (read_by (held a)) live (trace a) (trace b)
  asked_once live a b x = record { asked = x.asked; by = (chained a b x.asked x.by).1; once = x.once; lives = x.lives }

  pub refuted : (payload : ℕ) (root : Id) (live : List Id) (a b : T) (flaw : Flaw) → IsRefuted (loads_by held trace) payload root live a b flaw → IsRefuted (read_by (held a)) payload root live (trace a) (trace b) flaw
  unfolding asked_once
  refuted payload root live a b flaw x = record { asks = asked_once live a b x.asks; flawed = x.flawed; refutes = x.refutes }

  pub proven : (root : Id) (a b : T) (list : Owners) → (held a).list ≡ [] → IsCertified (loads_by held trace) ((held a).size - 78) root (live_ids (held a).state.lives) a b list → IsProven (held a) root (trace a) (trace b) list
  proven root a b list empty x = record { given = x.given; reads = (reads_of held trace a b x.given empty x.gave).1; certifies = x.certifies }
