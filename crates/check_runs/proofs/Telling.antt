-- A check or a survey that was told, by what was found and how it was printed.
use Rattle.std.proofs.Common.{◌≡◌, ℕ, List, refl, sym, ◌∙◌, ap, subst}
use Rattle.std.specs.Prelude.{Result, IsOk}
use Rattle.std.specs.declared.option.Option.{Option}
use Rattle.std.specs.declared.result.Result.TheVariants.{Ok, Err}
use Rattle.check_texts.specs.line_io.Streams.{Stream}
use Rattle.outside.specs.Trace.{Call}
use Rattle.outside.specs.declared.keeper.Keeper.{Ghosts as KeeperGhosts}
use Rattle.setup_runs.specs.run_frame.Statuses.{closing_status}
use Rattle.run_status.specs.Statuses.{first_of}
use Rattle.run_status.specs.declared.status.Status.{Status}
use Rattle.run_status.specs.declared.status.Status.TheVariants.{Done}
use Rattle.setup_runs.specs.record_saver.declared.saver.SyncError.{SyncError}
use Rattle.check_refused.specs.declared.survey.Ungiven.{Ungiven}
use Rattle.check_texts.specs.Surveys.{IsSurveyTold}
use Rattle.check_texts.specs.Telling.{IsTold, ListsAfter}
use Rattle.check_runs.proofs.Leaving.{check_status, first_done}
use Rattle.check_runs.proofs.SurveyLeaving.{survey_status}
use Rattle.check_runs.specs.Examining.{IsExamined}
use Rattle.check_runs.specs.Running.{IsCheckTold}
use Rattle.check_runs.specs.SurveyRuns.{IsRefusalTold}
use Rattle.check_runs.specs.Surveying.{IsSurveyedRun}
use Rattle.check_runs.specs.declared.examining.Examination.{Examination}
use Rattle.check_runs.specs.declared.surveying.Survey.{Survey}

closed_well : (closing : Result Unit SyncError) → IsOk closing → closing_status closing ≡ Done
closed_well (Ok u) ok = refl
closed_well (Err e) ok = absurd (cc)

pub told : {V : Type 0} {K : Type 0} (trace : V → Option (List Call)) (faults : V → ℕ) (names : V → Option (List (List ℕ))) (G : KeeperGhosts K) (password : List ℕ) (output : Stream) (vault : V) (keeper : K) (x : Examination V K) (last : V)
    (status printed closing : Status) → IsExamined trace faults G password vault keeper x → IsTold (names x.vault) x.verdict output printed → ListsAfter trace faults names x.verdict x.vault last printed
    → status ≡ first_of printed closing → closing ≡ closing_status x.closing → IsCheckTold trace faults names G password output vault keeper (record { status = status; vault = last; keeper = x.keeper })
told trace faults names G password output vault keeper x last status printed closing examined t lists first closes =
    let is : status ≡ printed =
    first ∙ (ap (first_of printed) (closes ∙ closed_well x.closing examined.leaves.closed) ∙ first_done printed (check_status (names x.vault) x.verdict output printed t)) in
    record {
      x = x;
      examined = examined;
      told = subst (λ (s : Status). IsTold (names x.vault) x.verdict output s) (sym is) t;
      lists = subst (λ (s : Status). ListsAfter trace faults names x.verdict x.vault last s) (sym is) lists;
      same_keeper = refl;
    }

pub survey_told : {V : Type 0} {K : Type 0} (trace : V → Option (List Call)) (faults : V → ℕ) (names : V → Option (List (List ℕ))) (G : KeeperGhosts K) (password : List ℕ) (output : Stream) (vault : V) (keeper : K) (x : Survey V K) (last : V)
    (ungiven : List Ungiven) (status printed closing : Status) → IsSurveyedRun trace faults G password vault keeper x → ungiven ≡ x.ungiven.items → IsSurveyTold (names x.vault) x.verdict ungiven x.end output printed → ListsAfter trace faults names x.verdict x.vault last printed
    → status ≡ first_of printed closing → closing ≡ closing_status x.closing → IsRefusalTold trace faults names G password output vault keeper (record { status = status; vault = last; keeper = x.keeper })
survey_told trace faults names G password output vault keeper x last ungiven status printed closing surveyed all said lists first closes =
    let t = subst (λ (us : List Ungiven). IsSurveyTold (names x.vault) x.verdict us x.end output printed) all said in
    let is : status ≡ printed =
    first ∙ (ap (first_of printed) (closes ∙ closed_well x.closing surveyed.leaves.closed) ∙ first_done printed (survey_status (names x.vault) x.verdict x.ungiven.items x.end output printed t)) in
    record {
      x = x;
      surveyed = surveyed;
      told = subst (λ (s : Status). IsSurveyTold (names x.vault) x.verdict x.ungiven.items x.end output s) (sym is) t;
      lists = subst (λ (s : Status). ListsAfter trace faults names x.verdict x.vault last s) (sym is) lists;
      same_keeper = refl;
    }
