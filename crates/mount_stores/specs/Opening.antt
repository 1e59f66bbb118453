-- What opening reads, and why it stops.
use Rattle.std.specs.Prelude.{◌≡◌, ◌⊎◌, ℕ, false, List, ◌++◌}
use Rattle.std.specs.FinMap as fin
use Rattle.std.specs.declared.option.Option.{Option}
use Rattle.std.specs.declared.option.Option.TheVariants.{None, Some}
use Rattle.sha2.specs.Sha256.{sha256}
use Rattle.outside.specs.Causes.{RoseBy}
use Rattle.outside.specs.Changes.{FileChanges, change_at}
use Rattle.outside.specs.Trace.{Call, config, got, adds}
use Rattle.record_saver.specs.local_state.Record.{PlainState}
use Rattle.integrity_store.specs.redo_vault.Redo.{Gave}
use Rattle.integrity_store.specs.block_versions.Stores.{version_in}
use Rattle.config_file.specs.ConfigOf.{ConfigOf, opened, form, locked, inner}
use Rattle.config_file.specs.Settings.{Settings, settings_of}
use Rattle.config_file.specs.declared.config.Opened.{Opened}
use Rattle.config_file.specs.declared.error.ConfigError.TheVariants as config_error
use Rattle.record_saver.specs.declared.saver.SyncError.{SyncError}
use Rattle.record_saver.specs.declared.saver.SyncError.TheVariants.{Memory as SyncMemory, FaultDirectory as SyncDirectory, FaultState as SyncState}
use Rattle.mount_stores.specs.Identities.{KeepsRecord}
use Rattle.mount_stores.specs.declared.error.OpenError.{OpenError}
use Rattle.mount_stores.specs.declared.opening.TheConstants.{MAX_CONFIG}
use Rattle.mount_stores.specs.declared.error.OpenError.TheVariants.{Memory, Mismatch, NoConfig, Config as OfConfig, FaultDirectory, FaultState}

-- a record of this state and list is kept, and no violation is marked in it
pub record IsLoaded (was : Option (List ℕ)) (state : PlainState) (list : FileChanges) : Type 0 where
  pub keeps : KeepsRecord was state list
  pub unmarked : state.marked ≡ false

-- where a record without a violation is kept, these are the versions in it, and 0 for an id that it doesn't know
abbrev pub AreKnown : Option (List ℕ) → (List ℕ → ℕ) → Type 0
AreKnown was version = (state : PlainState) (list : FileChanges) → IsLoaded was state list → (id : List ℕ) → version id ≡ version_in (fin.get state.lives id)

-- a record without a violation is kept, and these are the versions in it
pub record KeepsVersions (was : Option (List ℕ)) (version : List ℕ → ℕ) : Type 0 where
  pub state : PlainState
  pub list : FileChanges
  pub loaded : IsLoaded was state list
  pub versions : (id : List ℕ) → version id ≡ version_in (fin.get state.lives id)

-- what the list, or else one call, gave for the configuration
abbrev pub GaveConfig : FileChanges → Option (List Call) → Option (List Call) → Option (List ℕ) → Type 0
GaveConfig list old new answer = Gave (change_at config list) old new config MAX_CONFIG answer

-- no call, or one get of the configuration
abbrev pub ReadsConfigOnce : Option (List Call) → Option (List Call) → Type 0
ReadsConfigOnce old new = (new ≡ old) ⊎ ((answer : Option (List ℕ)) × (new ≡ adds old (got config MAX_CONFIG answer)))

-- the configuration that was given opened under the password
pub record OpenedConfig (password : List ℕ) (list : FileChanges) (old new : Option (List Call)) (o : Opened) : Type 0 where
  pub answer : List ℕ
  pub gave : GaveConfig list old new (Some answer)
  pub opens : ConfigOf password answer (opened (settings_of o.config) o.params)

-- why the configuration isn't taken
abbrev pub ConfigCause : List ℕ → FileChanges → Option (List Call) → Option (List Call) → ℕ → ℕ → OpenError → Type 0
ConfigCause password list old new v0 v1 Memory = Unit {0}
ConfigCause password list old new v0 v1 FaultDirectory = RoseBy 1 v0 v1
ConfigCause password list old new v0 v1 NoConfig = GaveConfig list old new None
ConfigCause password list old new v0 v1 (OfConfig config_error.Form) = (answer : List ℕ) × GaveConfig list old new (Some answer) × ConfigOf password answer form
ConfigCause password list old new v0 v1 (OfConfig config_error.Locked) = (answer : List ℕ) × GaveConfig list old new (Some answer) × ConfigOf password answer locked
ConfigCause password list old new v0 v1 (OfConfig config_error.Inner) = (answer : List ℕ) × GaveConfig list old new (Some answer) × ConfigOf password answer inner
ConfigCause password list old new v0 v1 error = ⊥

-- the state is of this configuration's file system and key
pub record IsOf (state : PlainState) (c : Settings) : Type 0 where
  pub fs_id : state.fs_id ≡ c.fs_id
  pub digest : state.key_digest ≡ sha256 (state.key_salt ++ c.key)

-- the configuration that was found is of another file system or key; the ids of both
pub record IsMismatch (password : List ℕ) (state : PlainState) (list : FileChanges) (old new : Option (List Call)) (kept found : List ℕ) : Type 0 where
  pub o : Opened
  pub opened_so : OpenedConfig password list old new o
  pub other : ¬ IsOf state (settings_of o.config)
  pub kept_id : kept ≡ state.fs_id
  pub found_id : found ≡ o.config.fs_id.0

-- why a directory isn't opened by a record of this state and list
abbrev pub OpenCause : List ℕ → PlainState → FileChanges → Option (List Call) → Option (List Call) → ℕ → ℕ → OpenError → Type 0
OpenCause password state list old new v0 v1 (Mismatch kept found) = IsMismatch password state list old new kept.0 found.0
OpenCause password state list old new v0 v1 error = ConfigCause password list old new v0 v1 error

abbrev pub error_of : SyncError → OpenError
error_of SyncMemory = Memory
error_of SyncDirectory = FaultDirectory
error_of SyncState = FaultState
