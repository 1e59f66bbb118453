-- What a status of a session says.
use Rattle.std.proofs.Common.{◌≡◌, ◌≢◌, ◌+◌, ℕ, Bool, true, false, refl, sym, ◌∙◌, subst, arith}
use Rattle.std.specs.Prelude.{Result, OnOk}
use Rattle.std.specs.declared.result.Result.TheVariants.{Ok, Err}
use Rattle.outside.specs.Causes.{RoseBy}
use Rattle.run_status.specs.declared.status.Status.{Status}
use Rattle.run_status.specs.declared.status.Status.TheVariants.{Done, Usage, LongPassword, Violation, DirectoryFault, StateFault, InputFault, OutputFault, HostFault}
use Rattle.session_laws.specs.config_file.declared.error.ConfigError.TheVariants as config_error
use Rattle.session_laws.specs.mount.Mounts.{StopsMarked}
use Rattle.session_laws.specs.mount_stores.declared.error.OpenError.{OpenError}
use Rattle.session_laws.specs.mount_stores.declared.error.OpenError.TheVariants.{Memory as NoMemory, NoState, BadState, Exists, Marked, Mismatch, NoConfig, Config as OfConfig, FaultDirectory, FaultState}
use Rattle.session_laws.specs.record_saver.declared.saver.SyncError.{SyncError}
use Rattle.session_laws.specs.record_saver.declared.saver.SyncError.TheVariants as sync_error
use Rattle.session_laws.specs.run_frame.Statuses.{opening_status, session_status}
use Rattle.session_laws.specs.session_lines.declared.end.End.{End}
use Rattle.session_laws.specs.session_lines.declared.end.End.TheVariants as line_end
use Rattle.session_laws.specs.Runs.{directory_fault, state_fault}
use Rattle.mount_run.specs.Clauses.{IsRefusingStatus}

-- ---- a file system that wasn't opened

-- of the statuses of streams it has none, and it isn't done
abbrev pub IsOfOpening : Status → Type 0
IsOfOpening Done = ⊥
IsOfOpening Usage = ⊥
IsOfOpening LongPassword = ⊥
IsOfOpening InputFault = ⊥
IsOfOpening OutputFault = ⊥
IsOfOpening HostFault = ⊥
IsOfOpening status = Unit {0}

of_opening : (error : OpenError) → IsOfOpening (opening_status error)
of_opening NoMemory = tt
of_opening NoState = tt
of_opening BadState = tt
of_opening Exists = tt
of_opening Marked = tt
of_opening (Mismatch kept found) = tt
of_opening NoConfig = tt
of_opening (OfConfig config_error.Memory) = tt
of_opening (OfConfig config_error.Form) = tt
of_opening (OfConfig config_error.Locked) = tt
of_opening (OfConfig config_error.Inner) = tt
of_opening FaultDirectory = tt
of_opening FaultState = tt

pub opening_is_no : (error : OpenError) (status other : Status) → status ≡ opening_status error → status ≡ other → (IsOfOpening other → ⊥) → ⊥
opening_is_no error status other e f h = h (subst IsOfOpening (sym e ∙ f) (of_opening error))

pub stops_is_refusal : (error : OpenError) → StopsMarked error → IsRefusingStatus (opening_status error)
stops_is_refusal Marked stops = tt
stops_is_refusal NoMemory stops = tt
stops_is_refusal FaultState stops = tt
stops_is_refusal error stops = absurd stops

-- ---- a session that was opened

pub session_directory : (b : Bool) (end : End) (closing : Result Unit SyncError) (n v0 v1 : ℕ) → session_status b end closing ≡ DirectoryFault → RoseBy (n + directory_fault closing) v0 v1 → RoseBy 1 v0 v1
session_directory false line_end.Finished (Err sync_error.FaultDirectory) n v0 v1 e rose = omega arith
session_directory false line_end.Finished (Err sync_error.FaultState) n v0 v1 e rose = absurd (cc)
session_directory false line_end.Finished (Err sync_error.Memory) n v0 v1 e rose = absurd (cc)
session_directory false line_end.Finished (Ok u) n v0 v1 e rose = absurd (cc)
session_directory false line_end.InputFault closing n v0 v1 e rose = absurd (cc)
session_directory false line_end.OutputFault closing n v0 v1 e rose = absurd (cc)
session_directory true end closing n v0 v1 e rose = absurd (cc)

pub session_state : (b : Bool) (end : End) (closing : Result Unit SyncError) (n k0 k1 : ℕ) → session_status b end closing ≡ StateFault → RoseBy (n + state_fault closing) k0 k1 → RoseBy 1 k0 k1
session_state false line_end.Finished (Err sync_error.FaultState) n k0 k1 e rose = omega arith
session_state false line_end.Finished (Err sync_error.FaultDirectory) n k0 k1 e rose = absurd (cc)
session_state false line_end.Finished (Err sync_error.Memory) n k0 k1 e rose = absurd (cc)
session_state false line_end.Finished (Ok u) n k0 k1 e rose = absurd (cc)
session_state false line_end.InputFault closing n k0 k1 e rose = absurd (cc)
session_state false line_end.OutputFault closing n k0 k1 e rose = absurd (cc)
session_state true end closing n k0 k1 e rose = absurd (cc)

-- a session that is done was closed, and there was no violation
pub done_is_calm : (b : Bool) (end : End) (closing : Result Unit SyncError) → session_status b end closing ≡ Done → b ≡ false
done_is_calm false end closing e = refl
done_is_calm true end closing e = absurd (cc)

pub done_is_closed : (b : Bool) (end : End) (closing : Result Unit SyncError) (P : Type 0) → session_status b end closing ≡ Done → OnOk closing P → P
done_is_closed false line_end.Finished (Ok u) P e on = on
done_is_closed false line_end.Finished (Err sync_error.Memory) P e on = absurd (cc)
done_is_closed false line_end.Finished (Err sync_error.FaultDirectory) P e on = absurd (cc)
done_is_closed false line_end.Finished (Err sync_error.FaultState) P e on = absurd (cc)
done_is_closed false line_end.InputFault closing P e on = absurd (cc)
done_is_closed false line_end.OutputFault closing P e on = absurd (cc)
done_is_closed true end closing P e on = absurd (cc)

-- without a violation none is named
pub calm_is_no_alarm : (end : End) (closing : Result Unit SyncError) → session_status false end closing ≢ Violation
calm_is_no_alarm line_end.OutputFault closing = λ e. absurd (cc)
calm_is_no_alarm line_end.InputFault closing = λ e. absurd (cc)
calm_is_no_alarm line_end.Finished (Ok u) = λ e. absurd (cc)
calm_is_no_alarm line_end.Finished (Err sync_error.Memory) = λ e. absurd (cc)
calm_is_no_alarm line_end.Finished (Err sync_error.FaultDirectory) = λ e. absurd (cc)
calm_is_no_alarm line_end.Finished (Err sync_error.FaultState) = λ e. absurd (cc)
