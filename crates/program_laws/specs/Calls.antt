-- What the other calls of a mount do where nothing lies and nothing fails.
use Rattle.std.specs.Prelude.{◌≡◌, ◌⊎◌, ◌≤◌, ℕ, false, List, Result, OnOk}
use Rattle.std.specs.declared.option.Option.{Option}
use Rattle.std.specs.declared.result.Result.TheVariants.{Ok, Err}
use Rattle.session_laws.specs.config_file.Settings.{Settings, settings_of}
use Rattle.session_laws.specs.config_file.declared.error.ConfigError.TheVariants as config_error
use Rattle.fs_model.specs.Tree.{Tree}
use Rattle.check_runs.specs.mount.Answering.{store_of, kept_of}
use Rattle.check_runs.specs.mount.Mounts.{Unopened}
use Rattle.check_runs.specs.mount.Serving.{MountMoves, MountSyncs, ChangesPassword, MountLeaves, MountCloses}
use Rattle.check_runs.specs.mount.declared.mount.Halted.{Halted}
use Rattle.check_runs.specs.mount.declared.mount.Mount.{Mount}
use Rattle.check_runs.specs.mount_calls.Migrating.{MigratesMount, Counts, ids_in}
use Rattle.check_runs.specs.mount_migrating.Migrating.{IsSpentAmong}
use Rattle.check_runs.specs.mount_migrating.declared.error.MigrateError.{MigrateError}
use Rattle.check_runs.specs.mount_migrating.declared.error.MigrateError.TheVariants as migrate_error
use Rattle.check_runs.specs.mount_stores.Identities.{HasEmptyList}
use Rattle.check_runs.specs.mount_stores.Tower.{vault_in, tower_holdings}
use Rattle.check_runs.specs.mount_stores.declared.error.OpenError.{OpenError}
use Rattle.check_runs.specs.mount_stores.declared.error.OpenError.TheVariants as open_error
use Rattle.outside.specs.Causes.{RoseBy}
use Rattle.outside.specs.Trace.{Call}
use Rattle.outside.specs.declared.keeper.Keeper.{Ghosts as KeeperGhosts}
use Rattle.session_laws.specs.Runs.{Outside, outside_of, OutsideStandsFor, PasswordOpens, lies}
use Rattle.session_laws.specs.Turns.{Begun}
use Rattle.shell_runs.specs.record_saver.declared.saver.SyncError.{SyncError}
use Rattle.shell_runs.specs.record_saver.declared.saver.SyncError.TheVariants as sync_error
use Rattle.check_runs.specs.mount_core.Showing.{ShowsFiles}
use Rattle.program_laws.specs.Mounts.{MountStands, MountUntroubled}
use Rattle.program_laws.specs.Premises.{Leaves}

-- no count of faults rose: of the directory and the record
pub record IsUnfailed (before after : Outside) : Type 0 where
  pub directory : ¬ RoseBy 1 before.vault_faults after.vault_faults
  pub state : ¬ RoseBy 1 before.keeper_faults after.keeper_faults

abbrev pub moment_of : {V : Type 0} → {K : Type 0} → (V → Option (List Call)) → (V → ℕ) → KeeperGhosts K → Mount V K → Outside
moment_of trace faults G mount = outside_of trace faults G (vault_in (store_of mount)) mount.core.saver.keeper

-- ---- attach

-- by its clauses
abbrev pub Attaches : {V : Type 0} → {K : Type 0} → (V → Option (List Call)) → (V → ℕ) → KeeperGhosts K → List ℕ → V → K → Result (Mount V K) (Halted V K) → Type 0
Attaches trace faults G password vault keeper (Ok mount) = Begun ShowsFiles trace faults G password vault keeper mount
Attaches trace faults G password vault keeper (Err h) = Unopened ShowsFiles trace faults G password vault keeper h

abbrev pub left_by : {V : Type 0} → {K : Type 0} → (V → Option (List Call)) → (V → ℕ) → KeeperGhosts K → Result (Mount V K) (Halted V K) → Outside
left_by trace faults G (Ok mount) = moment_of trace faults G mount
left_by trace faults G (Err h) = outside_of trace faults G h.vault h.keeper

abbrev pub WantsMemory : OpenError → Type 0
WantsMemory open_error.Memory = Unit {0}
WantsMemory (open_error.Config config_error.Memory) = Unit {0}
WantsMemory error = ⊥

-- the mount is of this configuration, and stands for the kept tree, with nothing left to be written
pub record IsAttached {V : Type 0} {K : Type 0} (trace : V → Option (List Call)) (faults : V → ℕ) (G : KeeperGhosts K) (c : Settings) (tree : Tree) (mount : Mount V K) : Type 0 where
  pub of_config : settings_of mount.opened.config ≡ c
  pub stands : MountStands trace faults G tree tree mount
  pub emptied : HasEmptyList (kept_of G mount)

-- it was opened, or memory was refused; what is kept stands for the tree under the password either way
abbrev pub AttachEnds : {V : Type 0} → {K : Type 0} → (V → Option (List Call)) → (V → ℕ) → KeeperGhosts K → Settings → Tree → Result (Mount V K) (Halted V K) → Type 0
AttachEnds trace faults G c tree (Ok mount) = IsAttached trace faults G c tree mount
AttachEnds trace faults G c tree (Err h) = WantsMemory h.error

-- Where this was left under the password, nothing lies and nothing fails, it ends so, and the same is left again.
abbrev pub LeavesAgain : List ℕ → Settings → Tree → Type 0 → Outside → Outside → Type 0
LeavesAgain password c tree Ends before after = Leaves password c tree before → lies after ≤ lies before → IsUnfailed before after → Ends × Leaves password c tree after

abbrev pub AttachCompletes : {V : Type 0} → {K : Type 0} → (V → Option (List Call)) → (V → ℕ) → KeeperGhosts K → Type 0
AttachCompletes {V = V} {K = K} trace faults G =
    (password : List ℕ) (vault : V) (keeper : K) (result : Result (Mount V K) (Halted V K)) (c : Settings) (tree : Tree)
    → Attaches trace faults G password vault keeper result
    → LeavesAgain password c tree (AttachEnds trace faults G c tree result) (outside_of trace faults G vault keeper) (left_by trace faults G result)

-- ---- calls that sync

-- the present tree is kept, with nothing left to be written or saved; or memory was refused, and it is present still
abbrev pub SyncEnds : {V : Type 0} → {K : Type 0} → (V → Option (List Call)) → (V → ℕ) → KeeperGhosts K → Tree → Tree → Mount V K → Result Unit SyncError → Type 0
SyncEnds trace faults G kept present after (Ok _) = MountStands trace faults G present present after × HasEmptyList (kept_of G after) × (after.core.saver.changed ≡ false)
SyncEnds trace faults G kept present after (Err sync_error.Memory) = MountStands trace faults G kept present after ⊎ MountStands trace faults G present present after
SyncEnds trace faults G kept present after (Err error) = ⊥

abbrev pub SyncCompletes : {V : Type 0} → {K : Type 0} → (V → Option (List Call)) → (V → ℕ) → KeeperGhosts K → Type 0
SyncCompletes {V = V} {K = K} trace faults G =
    (before after : Mount V K) (result : Result Unit SyncError) (kept present : Tree)
    → MountMoves trace faults G before after result
    → MountSyncs ShowsFiles trace faults G before after result
    → MountStands trace faults G kept present before
    → IsUnfailed (moment_of trace faults G before) (moment_of trace faults G after)
    → SyncEnds trace faults G kept present after result

-- the same, and after Ok the new password opens the configuration
abbrev pub ChangePasswordCompletes : {V : Type 0} → {K : Type 0} → (V → Option (List Call)) → (V → ℕ) → KeeperGhosts K → Type 0
ChangePasswordCompletes {V = V} {K = K} trace faults G =
    (before after : Mount V K) (result : Result Unit SyncError) (password file : List ℕ) (kept present : Tree)
    → MountMoves trace faults G before after result
    → ChangesPassword ShowsFiles trace faults G before password file after result
    → MountStands trace faults G kept present before
    → IsUnfailed (moment_of trace faults G before) (moment_of trace faults G after)
    → SyncEnds trace faults G kept present after result × OnOk result (PasswordOpens password (settings_of before.opened.config) (moment_of trace faults G after))

-- the present tree is kept, with nothing left to be written; or memory was refused, and one of both trees is kept
abbrev pub CloseEnds : Settings → Tree → Tree → Outside → Result Unit SyncError → Type 0
CloseEnds c kept present after (Ok _) = OutsideStandsFor ShowsFiles c present after × HasEmptyList after.kept
CloseEnds c kept present after (Err sync_error.Memory) = OutsideStandsFor ShowsFiles c kept after ⊎ OutsideStandsFor ShowsFiles c present after
CloseEnds c kept present after (Err error) = ⊥

abbrev pub CloseCompletes : {V : Type 0} → {K : Type 0} → (V → Option (List Call)) → (V → ℕ) → KeeperGhosts K → Type 0
CloseCompletes {V = V} {K = K} trace faults G =
    (mount : Mount V K) (result : Result Unit SyncError) (vault : V) (keeper : K) (kept present : Tree)
    → MountLeaves trace faults G mount result vault keeper
    → MountCloses ShowsFiles trace faults G mount result vault keeper
    → MountStands trace faults G kept present mount
    → IsUnfailed (moment_of trace faults G mount) (outside_of trace faults G vault keeper)
    → CloseEnds (settings_of mount.opened.config) kept present (outside_of trace faults G vault keeper) result

-- ---- migrate

-- so many blocks were written anew; or memory was refused, or one of them has its last version. The present tree stays.
abbrev pub AnewEnds : {V : Type 0} → {K : Type 0} → (V → Option (List Call)) → Mount V K → Mount V K → Result ℕ MigrateError → Type 0
AnewEnds trace before after (Ok count) = Counts before after count
AnewEnds trace before after (Err migrate_error.Memory) = Unit {0}
AnewEnds trace before after (Err migrate_error.Spent) = IsSpentAmong (tower_holdings trace) (store_of before) (ids_in before)
AnewEnds trace before after (Err error) = ⊥

abbrev pub MigrateMountCompletes : {V : Type 0} → {K : Type 0} → (V → Option (List Call)) → (V → ℕ) → KeeperGhosts K → Type 0
MigrateMountCompletes {V = V} {K = K} trace faults G =
    (before after : Mount V K) (result : Result ℕ MigrateError) (kept present : Tree)
    → MigratesMount ShowsFiles trace faults G before result after
    → MountStands trace faults G kept present before
    → MountUntroubled trace faults G before after
    → AnewEnds trace before after result × (MountStands trace faults G kept present after ⊎ MountStands trace faults G present present after)
