-- What `migrate` does.
use Rattle.std.specs.Prelude.{◌≡◌, ◌⊎◌, ℕ, ◌+◌, true, false, List, Result, length, IfOk, IsOk, OnOk}
use Rattle.std.specs.FinMap as fin
use Rattle.std.specs.declared.option.Option.{Option}
use Rattle.session_laws.specs.answers.Sessions.{is_violation, directory_faults, state_faults}
use Rattle.session_laws.specs.config_file.Settings.{Settings, settings_of}
use Rattle.fs_model.specs.Tree.{Tree}
use Rattle.session_laws.specs.block_versions.Standing.{records}
use Rattle.session_laws.specs.block_versions.Stores.{version_in}
use Rattle.session_laws.specs.line_io.Streams.{Stream, Untouched}
use Rattle.session_laws.specs.local_state.Known.{live_ids}
use Rattle.session_laws.specs.local_state.Record.{PlainState}
use Rattle.session_laws.specs.mount.declared.mount.Mount.{Mount}
use Rattle.mount_calls.specs.Migrating.{KeepsNewest, MigratesMount}
use Rattle.session_laws.specs.mount_core.Answers.{OnSpent}
use Rattle.session_laws.specs.mount_core.Standing.{IsKeptMarked}
use Rattle.mount_calls.specs.mount_migrating.Migrating.{told}
use Rattle.mount_calls.specs.mount_migrating.declared.error.MigrateError.{MigrateError}
use Rattle.session_laws.specs.mount_stores.declared.error.OpenError.{OpenError}
use Rattle.outside.specs.Causes.{RoseBy}
use Rattle.outside.specs.Trace.{Call}
use Rattle.outside.specs.declared.keeper.Keeper.{Ghosts as KeeperGhosts}
use Rattle.session_laws.specs.run_frame.Passwords.{PasswordUnread}
use Rattle.session_laws.specs.run_frame.Statuses.{session_status}
use Rattle.run_status.specs.declared.ended.Ended.{Ended}
use Rattle.session_laws.specs.session_lines.Driven.{IsUnfailed, Reported}
use Rattle.session_laws.specs.session_lines.declared.end.End.{End}
use Rattle.session_laws.specs.Openings.{HasPassword, IsUnread, IsUnopened, StayOpen}
use Rattle.session_laws.specs.Runs.{outside_of, OpensTo, IsMigrationRun, directory_fault, state_fault}
use Rattle.session_laws.specs.Turns.{Begun, Closing}
use Rattle.session_laws.specs.record_saver.declared.saver.SyncError.{SyncError}
use Rattle.session_laws.specs.store_api.Holdings.{has_id}
use Rattle.session_laws.specs.mount_core.Showing.{ShowsFiles}
use Rattle.setup_runs.specs.MigrateText.{migrated_text}

-- of a record with this state: as many as its live ids, where it took the older format, and else none
abbrev pub IsCount : PlainState → ℕ → Type 0
IsCount state count = ((state.least ≡ 2) × (count ≡ 0)) ⊎ ((state.least ≡ 1) × (count ≡ length (live_ids state.lives)))

-- a live block of it stands at the last version of 64 bits
abbrev pub IsSpentIn : PlainState → Type 0
IsSpentIn state = (id : List ℕ) × (has_id (live_ids state.lives) id ≡ true) × (version_in (fin.get state.lives id) ≡ 18446744073709551615)

-- What it leaves outside, of what was opened, the migration and closing.
pub record LeavesMigrated {V : Type 0} {K : Type 0} (trace : V → Option (List Call)) (faults : V → ℕ) (G : KeeperGhosts K) (password : List ℕ) (vault : V) (keeper : K) (first : Mount V K) (state : PlainState) (migration : Result ℕ MigrateError) (closing : Result Unit SyncError) (ended : Ended V K) : Type 0 where
  pub count : IfOk migration (IsCount state)
  -- afterwards the record with an empty list is kept, which takes the newest format alone
  pub newest : OnOk migration (KeepsNewest (G.kept ended.keeper))
  pub spent : OnSpent (told migration) (IsSpentIn state)
  -- after that, and after a violation, there is nothing to do to close
  pub closed : IsOk migration ⊎ (is_violation (told migration) ≡ true) → IsOk closing
  -- a fault of the line is told just where its count rose, and so is one of closing
  pub directory_faults_happened : RoseBy (directory_faults (told migration) + directory_fault closing) (faults vault) (faults ended.vault)
  pub state_faults_happened : RoseBy (state_faults (told migration) + state_fault closing) (G.faults keeper) (G.faults ended.keeper)
  pub directory_quiet : directory_faults (told migration) + directory_fault closing ≡ 0 → faults ended.vault ≡ faults vault
  -- after a violation the mark's save may fail and isn't named
  pub state_quiet : is_violation (told migration) ≡ false → state_faults (told migration) + state_fault closing ≡ 0 → G.faults ended.keeper ≡ G.faults keeper
  pub marked : is_violation (told migration) ≡ true → IsKeptMarked records (G.kept ended.keeper) ⊎ RoseBy 1 (G.faults keeper) (G.faults ended.keeper)
  pub run : IsMigrationRun ShowsFiles password (outside_of trace faults G vault keeper) (outside_of trace faults G ended.vault ended.keeper) (is_violation (told migration))
  pub opens : StayOpen (outside_of trace faults G vault keeper) (outside_of trace faults G ended.vault ended.keeper)
  -- it is the configuration under which what was kept stood for a tree
  pub config : (c : Settings) (tree : Tree) → OpensTo ShowsFiles password c tree (outside_of trace faults G vault keeper) (outside_of trace faults G ended.vault ended.keeper) → settings_of first.opened.config ≡ c
  pub unmarked : ¬ IsKeptMarked records (G.kept keeper)

-- Under the password a file system was opened, its blocks were written anew or that failed, its one line was told, and it was closed. The status is that of a session with this one answer.
pub record IsMigrated {V : Type 0} {K : Type 0} (trace : V → Option (List Call)) (faults : V → ℕ) (G : KeeperGhosts K) (password : List ℕ) (output : Stream) (vault : V) (keeper : K) (ended : Ended V K) : Type 0 where
  pub first : Mount V K
  pub begun : Begun ShowsFiles trace faults G password vault keeper first
  pub migration : Result ℕ MigrateError
  pub left : Mount V K
  pub migrates : MigratesMount ShowsFiles trace faults G first migration left
  pub end : End
  pub reported : Reported output (migrated_text migration) end
  pub closing : Result Unit SyncError
  pub closed : Closing ShowsFiles trace faults G left closing ended.vault ended.keeper
  pub status : ended.status ≡ session_status (is_violation (told migration)) end closing
  pub leaves : LeavesMigrated trace faults G password vault keeper first begun.attached.state migration closing ended

-- under the password no file system was opened and nothing was written, or its blocks were written anew
abbrev pub MigratedUnder : {V : Type 0} → {K : Type 0} → (V → Option (List Call)) → (V → ℕ) → KeeperGhosts K → List ℕ → Stream → V → K → Ended V K → Type 0
MigratedUnder trace faults G password output vault keeper ended =
    (((error : OpenError) × IsUnopened trace faults G password vault keeper ended error) × Untouched output)
    ⊎ IsMigrated trace faults G password output vault keeper ended

-- the password line wasn't read and nothing was done, or its password is the one
abbrev pub RanMigrate : {V : Type 0} → {K : Type 0} → (V → Option (List Call)) → (V → ℕ) → KeeperGhosts K → Stream → Stream → V → K → Ended V K → Type 0
RanMigrate trace faults G input output vault keeper ended =
    IsUnread (PasswordUnread input) output vault keeper ended
    ⊎ ((password : List ℕ) × (after : Option (List ℕ)) × HasPassword input password after × IsUnfailed input × MigratedUnder trace faults G password output vault keeper ended)
