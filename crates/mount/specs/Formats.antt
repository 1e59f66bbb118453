-- From which format on a record that is kept takes block files.
use Rattle.std.specs.Prelude.{◌≡◌, ◌⊎◌, ℕ, List}
use Rattle.std.specs.declared.option.Option.{Option}
use Rattle.outside.specs.Changes.{FileChanges}
use Rattle.local_state.specs.Record.{PlainState}
use Rattle.mount_stores.specs.block_versions.Standing.{records}
use Rattle.mount_core.specs.Standing.{IsKeptMarked}
use Rattle.mount_stores.specs.Identities.{KeepsRecord}

-- a record of this state is kept, with some list
pub record KeepsState (kept : Option (List ℕ)) (state : PlainState) : Type 0 where
  pub list : FileChanges
  pub keeps : KeepsRecord kept state list

-- what is kept is marked, or a record that takes files from this format on
abbrev pub TakesFrom : ℕ → Option (List ℕ) → Type 0
TakesFrom least kept = IsKeptMarked records kept ⊎ ((state : PlainState) × KeepsState kept state × (state.least ≡ least))

-- what was kept is marked or takes files from some format on, and so does what is kept
abbrev pub TakesSame : Option (List ℕ) → Option (List ℕ) → Type 0
TakesSame before after = (least : ℕ) → TakesFrom least before → TakesFrom least after
