-- The records of a tower, and what is kept with an empty list.
use Rattle.std.proofs.Common.{◌≡◌, ℕ, List, [], Bool, false, sym, subst}
use Rattle.std.specs.Prelude.{Result, OnOk}
use Rattle.std.specs.declared.option.Option.{Option}
use Rattle.std.specs.declared.result.Result.TheVariants.{Ok, Err}
use Rattle.outside.specs.Changes.{FileChanges}
use Rattle.outside.specs.Trace.{Call}
use Rattle.record_saver.specs.local_state.Record.{PlainState, IsRecord}
use Rattle.integrity_store.specs.block_versions.Standing.{listed}
use Rattle.integrity_store.specs.declared.store.IntegrityStore.{IntegrityStore}
use Rattle.config_file.specs.declared.config.Cipher.{Cipher}
use Rattle.record_saver.specs.Saving.{KeepsEmpty}
use Rattle.mount_stores.specs.Identities.{HasEmptyList, KeepsRecord}
use Rattle.mount_stores.specs.Opening.{KeepsVersions}
use Rattle.mount_stores.specs.Tower.{Cached, held_in, sealed_held, sealed_durables, tower_holdings, tower_durables}

module _ {V : Type 0} (trace : V → Option (List Call)) (store : Cached V) (state : PlainState) (same : (held_in store).state ≡ state) where
  -- a record of the state and the list that a store holds is one of the store, and one with an empty list that is kept is of the state
  pub record_of : (list : FileChanges) (with_list : Bool) (bytes : List ℕ) → (tower_durables trace).list store ≡ list → IsRecord state (listed with_list list) bytes → (tower_durables trace).is_record store with_list bytes
  record_of list with_list bytes waits is =
      subst (λ s. IsRecord s (listed with_list (held_in store).list) bytes) (sym same) (subst (λ l. IsRecord state (listed with_list l) bytes) (sym waits) is)

  pub keeps_emptied : (kept : Option (List ℕ)) → KeepsEmpty (tower_durables trace) store kept → KeepsRecord kept state []
  keeps_emptied kept (bytes, is, record_) = record { bytes = bytes; kept = is; is_record = subst (λ s. IsRecord s [] bytes) same record_ }

-- a record with an empty list is kept
pub emptied : {V : Type 0} (trace : V → Option (List Call)) (store : IntegrityStore V Cipher) (kept : Option (List ℕ)) → KeepsEmpty (sealed_durables trace) store kept → HasEmptyList kept
emptied trace store kept (bytes, is, record_) = record { state = (sealed_held store).state; keeps = record { bytes = bytes; kept = is; is_record = record_ } }

pub emptied_on : {V : Type 0} {T E : Type 0} (trace : V → Option (List Call)) (store : Cached V) (kept : Option (List ℕ)) (result : Result T E) → OnOk result (KeepsEmpty (tower_durables trace) store kept) → OnOk result (HasEmptyList kept)
emptied_on trace store kept (Ok x) e = emptied trace store.store kept e
emptied_on trace store kept (Err x) e = tt

-- it has the versions of the store
pub keeps_versions : {V : Type 0} {T E : Type 0} (trace : V → Option (List Call)) (store : Cached V) (kept : Option (List ℕ)) (version : List ℕ → ℕ) (result : Result T E) → ((tower_durables trace).identity store).marked ≡ false
    → OnOk result (KeepsEmpty (tower_durables trace) store kept) → ((id : List ℕ) → version id ≡ (tower_holdings trace).version store id) → OnOk result (KeepsVersions kept version)
keeps_versions trace store kept version (Ok x) unmarked (bytes, is, record_) same =
    record { state = (held_in store).state; list = []; loaded = record { keeps = record { bytes = bytes; kept = is; is_record = record_ }; unmarked = unmarked }; versions = same }
keeps_versions trace store kept version (Err x) unmarked e same = tt
