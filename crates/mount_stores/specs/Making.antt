-- A new file system's configuration and store, and why none is made.
use Rattle.std.specs.Prelude.{◌≡◌, ◌⊎◌, ℕ, true, false, List, [], is_some, if◌then◌else◌}
use Rattle.std.specs.Str.{bytes_eq}
use Rattle.std.specs.declared.option.Option.{Option}
use Rattle.std.specs.declared.option.Option.TheVariants.{None, Some}
use Rattle.block_id.specs.Fresh.{zero_id}
use Rattle.block_id.specs.Name.{next_id}
use Rattle.outside.specs.Causes.{RoseBy}
use Rattle.outside.specs.Trace.{At, Call, adds, got, config}
use Rattle.block_cache.specs.store_api.Content.{Id}
use Rattle.block_cache.specs.store_api.Durables.{last_told}
use Rattle.block_cache.specs.store_api.Holdings.{has_id}
use Rattle.integrity_store.specs.declared.store.IntegrityStore.{IntegrityStore}
use Rattle.config_file.specs.Settings.{Settings}
use Rattle.config_file.specs.declared.config.Cipher.{Cipher}
use Rattle.config_file.specs.declared.config.Cipher.TheVariants.{Aes256Gcm}
use Rattle.mount_stores.specs.declared.opening.TheConstants.{MAX_CONFIG}
use Rattle.mount_stores.specs.declared.draws.Draws.{Draws}
use Rattle.mount_stores.specs.declared.error.OpenError.{OpenError}
use Rattle.mount_stores.specs.declared.error.OpenError.TheVariants.{Memory, Exists, FaultDirectory, FaultState}
use Rattle.mount_stores.specs.Identities.{first_holder, identity_for}
use Rattle.mount_stores.specs.Tower.{sealed_trace, sealed_meanings, sealed_holdings, sealed_durables}

-- the id of the root: the drawn one, or the next where that is zero
abbrev pub root_of : List ℕ → List ℕ
root_of id = if bytes_eq id zero_id then next_id id else id

-- what the new file system is made of
abbrev pub new_settings : ℕ → Draws → Settings
new_settings block_size draws =
    record { root = root_of draws.root; key = draws.key; cipher = Aes256Gcm; block_size = block_size; fs_id = draws.fs_id }

-- nothing was put or removed, by a trace that is told
pub record IsUnchanged (trace : Option (List Call)) : Type 0 where
  pub told : is_some trace ≡ true
  pub none : (name : At) → last_told name trace ≡ None

-- why a file system isn't made
abbrev pub CreateCause : Option (List ℕ) → Option (List Call) → Option (List Call) → ℕ → ℕ → ℕ → ℕ → OpenError → Type 0
CreateCause kept t0 t1 v0 v1 k0 k1 Memory = Unit {0}
CreateCause kept t0 t1 v0 v1 k0 k1 Exists = (is_some kept ≡ true) ⊎ ((file : List ℕ) × (t1 ≡ adds t0 (got config MAX_CONFIG (Some file))))
CreateCause kept t0 t1 v0 v1 k0 k1 FaultDirectory = RoseBy 1 v0 v1
CreateCause kept t0 t1 v0 v1 k0 k1 FaultState = RoseBy 1 k0 k1
CreateCause kept t0 t1 v0 v1 k0 k1 error = ⊥

-- a store that holds nothing, of this configuration and salt and of client 1, and takes the newest format alone; it is sound where no file was changed
pub record IsNewStore {V : Type 0} (was : Option (List Call)) (failed : ℕ) (trace : V → Option (List Call)) (faults : V → ℕ) (c : Settings) (salt : List ℕ) (store : IntegrityStore V Cipher) : Type 0 where
  pub intact : (sealed_meanings trace faults).intact store
  pub same : sealed_trace trace store ≡ was
  pub list : (sealed_durables trace).list store ≡ []
  pub few : (sealed_meanings trace faults).faults store ≡ failed
  pub unused : (id : Id) → has_id ((sealed_holdings trace).used store) id ≡ false
  pub none : (id : Id) → (sealed_holdings trace).content store id ≡ None
  pub identity : (sealed_durables trace).identity store ≡ identity_for c (first_holder salt)
  pub least : (sealed_durables trace).least store ≡ 2
  pub sound : IsUnchanged was → (sealed_meanings trace faults).sound store

-- what may be answered where something is kept
abbrev pub StopsThere : OpenError → Type 0
StopsThere Exists = Unit {0}
StopsThere Memory = Unit {0}
StopsThere FaultState = Unit {0}
StopsThere error = ⊥
