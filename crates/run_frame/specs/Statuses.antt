-- Errors and ends of sessions as statuses.
use Rattle.std.specs.Prelude.{Bool, true, false, Result}
use Rattle.std.specs.declared.result.Result.TheVariants.{Ok, Err}
use Rattle.mount_stores.specs.config_file.declared.error.ConfigError.TheVariants as config_error
use Rattle.mount_stores.specs.declared.error.OpenError.{OpenError}
use Rattle.mount_stores.specs.declared.error.OpenError.TheVariants as open_error
use Rattle.session_lines.specs.declared.end.End.{End}
use Rattle.session_lines.specs.declared.end.End.TheVariants as line_end
use Rattle.mount_stores.specs.record_saver.declared.saver.SyncError.{SyncError}
use Rattle.mount_stores.specs.record_saver.declared.saver.SyncError.TheVariants as sync_error
use Rattle.run_status.specs.declared.status.Status.{Status}
use Rattle.run_status.specs.declared.status.Status.TheVariants as status

-- of a file system that wasn't opened or made: a record that is marked, or is of another file system, is a violation
abbrev pub opening_status : OpenError → Status
opening_status open_error.Memory = status.Memory
opening_status open_error.NoState = status.NoState
opening_status open_error.BadState = status.BadState
opening_status open_error.Exists = status.Exists
opening_status open_error.Marked = status.Violation
opening_status (open_error.Mismatch kept found) = status.Violation
opening_status open_error.NoConfig = status.NoConfig
opening_status (open_error.Config config_error.Memory) = status.Memory
opening_status (open_error.Config config_error.Form) = status.ConfigForm
opening_status (open_error.Config config_error.Locked) = status.ConfigLocked
opening_status (open_error.Config config_error.Inner) = status.ConfigInner
opening_status open_error.FaultDirectory = status.DirectoryFault
opening_status open_error.FaultState = status.StateFault

-- of one that was synced or closed so
abbrev pub closing_status : Result Unit SyncError → Status
closing_status (Ok _) = status.Done
closing_status (Err sync_error.Memory) = status.Memory
closing_status (Err sync_error.FaultDirectory) = status.DirectoryFault
closing_status (Err sync_error.FaultState) = status.StateFault

-- ---- of a session

-- how the lines ended goes before how closing did
abbrev pub ended_status : End → Result Unit SyncError → Status
ended_status line_end.OutputFault closing = status.OutputFault
ended_status line_end.InputFault closing = status.InputFault
ended_status line_end.Finished closing = closing_status closing

-- a violation goes before both
abbrev pub session_status : Bool → End → Result Unit SyncError → Status
session_status true end closing = status.Violation
session_status false end closing = ended_status end closing

-- what a session may end with by itself, where nothing else is the matter: it is done, or a copy isn't
abbrev pub IsOwn : Status → Type 0
IsOwn status.Done = Unit {0}
IsOwn status.HostFault = Unit {0}
IsOwn status.CopyRefused = Unit {0}
IsOwn status.CopyStopped = Unit {0}
IsOwn status.Memory = Unit {0}
IsOwn other = ⊥
