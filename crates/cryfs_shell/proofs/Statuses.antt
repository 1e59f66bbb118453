-- What a status of a session says.
use Rattle.std.proofs.Common.{◌≡◌, ◌≢◌, ◌+◌, ℕ, Bool, true, false, refl, sym, ◌∙◌, subst, arith}
use Rattle.std.specs.Prelude.{Result, OnOk}
use Rattle.std.specs.declared.result.Result.TheVariants.{Ok, Err}
use Rattle.session_laws.specs.config_file.declared.error.ConfigError.TheVariants as config_error
use Rattle.trial_runs.specs.line_io.Streams.{Stream, HasFailed}
use Rattle.session_laws.specs.run_frame.Passwords.{InputFailed}
use Rattle.check_runs.specs.mount.Mounts.{StopsMarked}
use Rattle.check_runs.specs.mount_stores.declared.error.OpenError.{OpenError}
use Rattle.check_runs.specs.mount_stores.declared.error.OpenError.TheVariants.{Memory as NoMemory, NoState, BadState, Exists, Marked, Mismatch, NoConfig, Config as OfConfig, FaultDirectory, FaultState}
use Rattle.outside.specs.Causes.{RoseBy}
use Rattle.run_status.specs.Statuses.{first_of}
use Rattle.run_status.specs.declared.status.Status.{Status}
use Rattle.run_status.specs.declared.status.Status.TheVariants.{Done, Usage, LongPassword, Violation, DirectoryFault, StateFault, InputFault, OutputFault, HostFault}
use Rattle.trial_runs.specs.session_lines.declared.end.End.{End}
use Rattle.trial_runs.specs.session_lines.declared.end.End.TheVariants as line_end
use Rattle.session_laws.specs.Runs.{directory_fault, state_fault}
use Rattle.session_laws.specs.record_saver.declared.saver.SyncError.{SyncError}
use Rattle.session_laws.specs.record_saver.declared.saver.SyncError.TheVariants as sync_error
use Rattle.session_laws.specs.run_frame.Statuses.{opening_status, session_status, IsOwn}
use Rattle.session_laws.proofs.run_frame_lemmas.Owns.{not_own, is_own}
use Rattle.cryfs_shell.specs.Clauses.{IsRefusingStatus}

-- ---- a file system that wasn't opened

-- of the statuses of streams it has none, and it isn't done
abbrev pub IsOfOpening : Status → Type 0
IsOfOpening Done = ⊥
IsOfOpening Usage = ⊥
IsOfOpening LongPassword = ⊥
IsOfOpening InputFault = ⊥
IsOfOpening OutputFault = ⊥
IsOfOpening HostFault = ⊥
IsOfOpening status = Unit {0}

of_opening : (error : OpenError) → IsOfOpening (opening_status error)
of_opening NoMemory = tt
of_opening NoState = tt
of_opening BadState = tt
of_opening Exists = tt
of_opening Marked = tt
of_opening (Mismatch kept found) = tt
of_opening NoConfig = tt
of_opening (OfConfig config_error.Memory) = tt
of_opening (OfConfig config_error.Form) = tt
of_opening (OfConfig config_error.Locked) = tt
of_opening (OfConfig config_error.Inner) = tt
of_opening FaultDirectory = tt
of_opening FaultState = tt

pub opening_is_no : (error : OpenError) (status other : Status) → status ≡ opening_status error → status ≡ other → (IsOfOpening other → ⊥) → ⊥
opening_is_no error status other e f h = h (subst IsOfOpening (sym e ∙ f) (of_opening error))

pub stops_is_refusal : (error : OpenError) → StopsMarked error → IsRefusingStatus (opening_status error)
stops_is_refusal Marked stops = tt
stops_is_refusal NoMemory stops = tt
stops_is_refusal FaultState stops = tt
stops_is_refusal error stops = absurd stops

-- ---- a session that was opened

-- why its lines ended
abbrev pub EndCause : End → Stream → Stream → Type 0
EndCause line_end.Finished input output = Unit {0}
EndCause line_end.InputFault input output = InputFailed input
EndCause line_end.OutputFault input output = HasFailed output

pub session_directory : (b : Bool) (end : End) (closing : Result Unit SyncError) (n v0 v1 : ℕ) → session_status b end closing ≡ DirectoryFault → RoseBy (n + directory_fault closing) v0 v1 → RoseBy 1 v0 v1
session_directory false line_end.Finished (Err sync_error.FaultDirectory) n v0 v1 e rose = omega arith
session_directory false line_end.Finished (Err sync_error.FaultState) n v0 v1 e rose = absurd (cc)
session_directory false line_end.Finished (Err sync_error.Memory) n v0 v1 e rose = absurd (cc)
session_directory false line_end.Finished (Ok u) n v0 v1 e rose = absurd (cc)
session_directory false line_end.InputFault closing n v0 v1 e rose = absurd (cc)
session_directory false line_end.OutputFault closing n v0 v1 e rose = absurd (cc)
session_directory true end closing n v0 v1 e rose = absurd (cc)

pub session_state : (b : Bool) (end : End) (closing : Result Unit SyncError) (n k0 k1 : ℕ) → session_status b end closing ≡ StateFault → RoseBy (n + state_fault closing) k0 k1 → RoseBy 1 k0 k1
session_state false line_end.Finished (Err sync_error.FaultState) n k0 k1 e rose = omega arith
session_state false line_end.Finished (Err sync_error.FaultDirectory) n k0 k1 e rose = absurd (cc)
session_state false line_end.Finished (Err sync_error.Memory) n k0 k1 e rose = absurd (cc)
session_state false line_end.Finished (Ok u) n k0 k1 e rose = absurd (cc)
session_state false line_end.InputFault closing n k0 k1 e rose = absurd (cc)
session_state false line_end.OutputFault closing n k0 k1 e rose = absurd (cc)
session_state true end closing n k0 k1 e rose = absurd (cc)

pub session_input : (b : Bool) (end : End) (closing : Result Unit SyncError) (input output : Stream) → session_status b end closing ≡ InputFault → EndCause end input output → InputFailed input
session_input false line_end.InputFault closing input output e cause = cause
session_input false line_end.OutputFault closing input output e cause = absurd (cc)
session_input false line_end.Finished (Ok u) input output e cause = absurd (cc)
session_input false line_end.Finished (Err sync_error.Memory) input output e cause = absurd (cc)
session_input false line_end.Finished (Err sync_error.FaultDirectory) input output e cause = absurd (cc)
session_input false line_end.Finished (Err sync_error.FaultState) input output e cause = absurd (cc)
session_input true end closing input output e cause = absurd (cc)

pub session_output : (b : Bool) (end : End) (closing : Result Unit SyncError) (input output : Stream) → session_status b end closing ≡ OutputFault → EndCause end input output → HasFailed output
session_output false line_end.OutputFault closing input output e cause = cause
session_output false line_end.InputFault closing input output e cause = absurd (cc)
session_output false line_end.Finished (Ok u) input output e cause = absurd (cc)
session_output false line_end.Finished (Err sync_error.Memory) input output e cause = absurd (cc)
session_output false line_end.Finished (Err sync_error.FaultDirectory) input output e cause = absurd (cc)
session_output false line_end.Finished (Err sync_error.FaultState) input output e cause = absurd (cc)
session_output true end closing input output e cause = absurd (cc)

-- it is done, or names a violation, a fault or want of memory
abbrev IsOfSession : Status → Type 0
IsOfSession Usage = ⊥
IsOfSession LongPassword = ⊥
IsOfSession HostFault = ⊥
IsOfSession status = Unit {0}

of_session : (b : Bool) (end : End) (closing : Result Unit SyncError) → IsOfSession (session_status b end closing)
of_session true end closing = tt
of_session false line_end.OutputFault closing = tt
of_session false line_end.InputFault closing = tt
of_session false line_end.Finished (Ok u) = tt
of_session false line_end.Finished (Err sync_error.Memory) = tt
of_session false line_end.Finished (Err sync_error.FaultDirectory) = tt
of_session false line_end.Finished (Err sync_error.FaultState) = tt

pub session_is_no : (b : Bool) (end : End) (closing : Result Unit SyncError) (own status other : Status) → IsOwn own → status ≡ first_of (session_status b end closing) own → status ≡ other
    → (IsOwn other → ⊥) → (IsOfSession other → ⊥) → ⊥
session_is_no b end closing own status other mild e f not h = h (subst IsOfSession (not_own (session_status b end closing) own other mild not (sym e ∙ f)) (of_session b end closing))

-- a fault of the host folder is its own status
pub host_is_own : (b : Bool) (end : End) (closing : Result Unit SyncError) (own : Status) → first_of (session_status b end closing) own ≡ HostFault → own ≡ HostFault
host_is_own b end closing own e = is_own (session_status b end closing) own HostFault e (λ f. subst IsOfSession f (of_session b end closing))

-- a session that is done was closed, and there was no violation
pub done_is_calm : (b : Bool) (end : End) (closing : Result Unit SyncError) → session_status b end closing ≡ Done → b ≡ false
done_is_calm false end closing e = refl
done_is_calm true end closing e = absurd (cc)

pub done_is_closed : (b : Bool) (end : End) (closing : Result Unit SyncError) (P : Type 0) → session_status b end closing ≡ Done → OnOk closing P → P
done_is_closed false line_end.Finished (Ok u) P e on = on
done_is_closed false line_end.Finished (Err sync_error.Memory) P e on = absurd (cc)
done_is_closed false line_end.Finished (Err sync_error.FaultDirectory) P e on = absurd (cc)
done_is_closed false line_end.Finished (Err sync_error.FaultState) P e on = absurd (cc)
done_is_closed false line_end.InputFault closing P e on = absurd (cc)
done_is_closed false line_end.OutputFault closing P e on = absurd (cc)
done_is_closed true end closing P e on = absurd (cc)

-- without a violation none is named
pub calm_is_no_alarm : (end : End) (closing : Result Unit SyncError) → session_status false end closing ≢ Violation
calm_is_no_alarm line_end.OutputFault closing = λ e. absurd (cc)
calm_is_no_alarm line_end.InputFault closing = λ e. absurd (cc)
calm_is_no_alarm line_end.Finished (Ok u) = λ e. absurd (cc)
calm_is_no_alarm line_end.Finished (Err sync_error.Memory) = λ e. absurd (cc)
calm_is_no_alarm line_end.Finished (Err sync_error.FaultDirectory) = λ e. absurd (cc)
calm_is_no_alarm line_end.Finished (Err sync_error.FaultState) = λ e. absurd (cc)
