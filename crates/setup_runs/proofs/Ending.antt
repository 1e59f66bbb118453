-- How a run of `passwd` ended, by its change and its closing.
use Rattle.std.proofs.Common.{◌≡◌, refl, sym, ◌∙◌, ap, subst}
use Rattle.std.specs.Prelude.{Result, IsOk}
use Rattle.std.specs.declared.result.Result.TheVariants.{Ok, Err}
use Rattle.session_laws.specs.line_io.Streams.{Stream}
use Rattle.session_laws.specs.run_frame.Statuses.{closing_status}
use Rattle.run_status.specs.declared.status.Status.{Status}
use Rattle.run_status.specs.Statuses.{first_of}
use Rattle.session_laws.specs.record_saver.declared.saver.SyncError.{SyncError}
use Rattle.session_laws.specs.record_saver.declared.saver.SyncError.TheVariants.{Memory, FaultDirectory, FaultState}
use Rattle.setup_runs.specs.PasswdText.{Reports, changed_text}
use Rattle.setup_runs.specs.Printing.{Printed}
use Rattle.setup_runs.proofs.Telling.{closed_well}

-- an error is the first of two statuses
error_first : (error : SyncError) (next : Status) → first_of (closing_status (Err error)) next ≡ closing_status (Err error)
error_first Memory next = refl
error_first FaultDirectory next = refl
error_first FaultState next = refl

-- what is told of the change is the status
pub ends : (closing : Result Unit SyncError) (output : Stream) (told status : Status) → status ≡ first_of told (closing_status closing)
    → (change : Result Unit SyncError) → Reports change output told → (IsOk change → IsOk closing) → Reports change output status
ends closing output told status e (Ok u) r ok = subst (λ (s : Status). Printed output changed_text s) (sym (e ∙ closed_well closing output changed_text told (ok refl) r)) r
ends closing output told status e (Err error) r ok = (e ∙ (ap (λ (s : Status). first_of s (closing_status closing)) r.0 ∙ error_first error (closing_status closing)), r.1)
