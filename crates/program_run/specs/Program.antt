-- A run of the program as a call of `run`: what is told of its two folders and of its streams.
use Rattle.std.specs.Prelude.{ℕ, List}
use Rattle.std.specs.declared.option.Option.{Option}
use Rattle.std.specs.declared.option.Option.TheVariants.{None, Some}
use Rattle.cryfs_shell.specs.Streams.{Streams}
use Rattle.fs_model.specs.Instant.{Instant}
use Rattle.cryfs_shell.specs.line_io.Streams.{Stream}
use Rattle.outside.specs.Trace.{Call}
use Rattle.outside.specs.declared.keeper.Keeper.{Ghosts as KeeperGhosts}
use Rattle.real_outside.specs.Adapters.{FolderVaultState, FolderKeeperState, kept_in}
use Rattle.run_status.specs.declared.ended.Ended.{Ended}
use Rattle.run_status.specs.declared.status.Status.{Status}
use Rattle.run_status.specs.declared.storage.Storage.{Storage}
use Rattle.program_run.specs.Calls.{RunCall}
use Rattle.cryfs_shell.specs.session_laws.Runs.{Outside}

-- the calls that a block directory tells, its faults, its names, of which it tells none, and what is seen of a local record
abbrev pub folder_calls : FolderVaultState → Option (List Call)
folder_calls v = Some v.calls

abbrev pub folder_faults : FolderVaultState → ℕ
folder_faults v = v.faults

abbrev pub folder_names : FolderVaultState → Option (List (List ℕ))
folder_names v = None

abbrev pub folder_record : KeeperGhosts FolderKeeperState
folder_record = record { kept = kept_in; room = λ k. k.room; faults = λ k. k.faults; takes = λ bytes. Unit {0} }

-- an input of which nothing is told but how often it failed
abbrev pub untold : ℕ → ℕ → Stream
untold faults risen = record { old = None; new = None; faults = faults; risen = risen }

-- an output of which all is told that it took
abbrev pub told : List ℕ → List ℕ → ℕ → ℕ → Stream
told old new faults risen = record { old = Some old; new = Some new; faults = faults; risen = risen }

-- as the run begins, after the calls that the block folder tells
abbrev pub at_first : Storage FolderVaultState FolderKeeperState → Outside
at_first s = record { kept = kept_in s.keeper; calls = Some s.vault.calls; vault_faults = s.vault.faults; keeper_faults = s.keeper.faults }

-- as it ended
abbrev pub at_last : Ended FolderVaultState FolderKeeperState → Outside
at_last ended = record { kept = kept_in ended.keeper; calls = Some ended.vault.calls; vault_faults = ended.vault.faults; keeper_faults = ended.keeper.faults }

-- its words and moment, what it read, wrote, drew and copied, what was outside before and after, and its status
abbrev pub program_call : List (List ℕ) → Instant → Streams → Outside → Outside → Status → RunCall
program_call words now s before after status = record { words = words; now = now; streams = s; before = before; after = after; status = status }
