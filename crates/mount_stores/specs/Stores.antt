-- The store that was opened, and why none was.
use Rattle.std.specs.Prelude.{◌≡◌, ℕ, List}
use Rattle.std.specs.declared.option.Option.{Option}
use Rattle.outside.specs.Changes.{FileChanges}
use Rattle.outside.specs.Trace.{Call}
use Rattle.record_saver.specs.local_state.Record.{PlainState}
use Rattle.block_cache.specs.store_api.Holdings.{IsFew}
use Rattle.integrity_store.specs.block_versions.Held.{Held}
use Rattle.integrity_store.specs.Made.{IsMadeOf}
use Rattle.config_file.specs.Settings.{Settings, settings_of}
use Rattle.config_file.specs.declared.config.Opened.{Opened}
use Rattle.mount_stores.specs.Failing.{TellsFault}
use Rattle.mount_stores.specs.Identities.{holder_of, identity_for}
use Rattle.mount_stores.specs.Opening.{IsOf, OpenCause, OpenedConfig, ReadsConfigOnce}
use Rattle.mount_stores.specs.Tower.{Cached, held_in, tower_meanings, tower_holdings, tower_durables}
use Rattle.mount_stores.specs.declared.error.OpenError.{OpenError}
use Rattle.mount_stores.specs.declared.error.OpenError.TheVariants.{FaultDirectory}

-- the directory comes back with the calls and the faults that it had
pub record ComesBack {V : Type 0} (calls : V → Option (List Call)) (failed : V → ℕ) (vault back : V) : Type 0 where
  pub trace : calls back ≡ calls vault
  pub faults : failed back ≡ failed vault

-- a store over this directory that holds just this
pub record HoldsAll {V : Type 0} (trace : V → Option (List Call)) (faults : V → ℕ) (h : Held) (vault : V) (store : Cached V) : Type 0 where
  pub made : IsMadeOf (tower_meanings trace faults) (tower_holdings trace) (tower_durables trace) h (trace vault) (faults vault) store
  pub state : (held_in store).state ≡ h.state

-- a store that was opened by a record of this state and list, under this configuration, where so many calls had failed
pub record IsOpenedStore {V : Type 0} (trace : V → Option (List Call)) (faults : V → ℕ) (state : PlainState) (list : FileChanges) (c : Settings) (failed : ℕ) (store : Cached V) : Type 0 where
  pub intact : (tower_meanings trace faults).intact store
  pub few : IsFew ((tower_holdings trace).used store)
  pub waits : (tower_durables trace).list store ≡ list
  pub holds : (held_in store).state ≡ state
  pub identity : (tower_durables trace).identity store ≡ identity_for c (holder_of state)
  pub unfailed : (tower_meanings trace faults).faults store ≡ failed

-- the configuration that the list or the one call gave opened under the password, and the state is of it
pub record FindsConfig (password : List ℕ) (state : PlainState) (list : FileChanges) (old new : Option (List Call)) (o : Opened) : Type 0 where
  pub found : OpenedConfig password list old new o
  pub is_of : IsOf state (settings_of o.config)
  pub reads : ReadsConfigOnce old new

-- by a record of this state and list no store was opened, for this cause
pub record OpensNone (password : List ℕ) (state : PlainState) (list : FileChanges) (old new : Option (List Call)) (v0 v1 : ℕ) (error : OpenError) : Type 0 where
  pub cause : OpenCause password state list old new v0 v1 error
  pub reads : ReadsConfigOnce old new
  pub faults : TellsFault (error ≡ FaultDirectory) v0 v1
