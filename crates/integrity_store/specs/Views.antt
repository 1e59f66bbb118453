-- A store's parts as plain data.
use Rattle.std.specs.Prelude.{ℕ, ◌≤◌, ◌<◌, ◌^◌, List, Result, OnOk}
use Rattle.std.specs.declared.option.Option.{Option}
use Rattle.block_id.specs.declared.fail.Memory.{Memory}
use Rattle.block_versions.specs.Held.{Held}
use Rattle.block_versions.specs.Views.{held_of}
use Rattle.integrity_store.specs.declared.store.IntegrityStore.{IntegrityStore}

-- what a store holds
abbrev pub held_by : {V C : Type 0} → (C → List ℕ → List ℕ → List ℕ → Option (List ℕ)) → IntegrityStore V C → Held
held_by opens s = held_of opens s.sealed s.state

-- after Ok there is room for so many new ids, and what waits can be counted
pub record HasRoom (result : Result Unit Memory) (new_ids spare waiting_len : ℕ) : Type 0 where
  pub ids : OnOk result (new_ids ≤ spare)
  pub waiting : OnOk result (waiting_len < 2 ^ 64)
