-- What writing blocks anew leaves of a mount.
use Rattle.std.specs.Prelude.{◌≡◌, ◌⊎◌, ◌≤◌, ℕ, true, false, List, [], Result, OnOk, OnErr, IfOk, length}
use Rattle.std.specs.declared.option.Option.{Option}
use Rattle.mount_opening.specs.answers.Sessions.{is_violation, directory_faults, state_faults}
use Rattle.mount.specs.integrity_store.Applied.{applied_by}
use Rattle.fs_model.specs.Tree.{Tree}
use Rattle.mount.specs.block_versions.Standing.{records}
use Rattle.mount_opening.specs.local_state.Known.{live_ids}
use Rattle.mount_opening.specs.local_state.Record.{PlainState}
use Rattle.mount.specs.declared.mount.Mount.{Mount}
use Rattle.mount.specs.Answering.{store_of, calls_of, forgeries_of, lies_of, vault_faults, keeper_faults, kept_of}
use Rattle.mount.specs.Tower.{tower, TowerStands, TowerConfigures}
use Rattle.mount_opening.specs.mount_core.Answers.{is_structure, OnFound, OnSpent}
use Rattle.mount_opening.specs.mount_core.Configuring.{ConfigAnswered}
use Rattle.mount_opening.specs.mount_core.Standing.{Left, IsKeptMarked}
use Rattle.mount_migrating.specs.Migrating.{told, IsFoundSince, IsSpentAmong, AreUnspent, Raises}
use Rattle.mount_migrating.specs.Noticing.{PassesNone}
use Rattle.mount_migrating.specs.declared.error.MigrateError.{MigrateError}
use Rattle.mount.specs.mount_stores.Identities.{KeepsRecord}
use Rattle.mount.specs.mount_stores.Tower.{Cached, held_in, sealed_held, sealed_trace, tower_meanings, tower_holdings, tower_durables}
use Rattle.outside.specs.Causes.{RoseBy}
use Rattle.outside.specs.Going.{GoesOn}
use Rattle.outside.specs.Trace.{Call}
use Rattle.outside.specs.declared.keeper.Keeper.{Ghosts as KeeperGhosts}
use Rattle.mount_opening.specs.store_api.Content.{Id, Changes}
use Rattle.mount_opening.specs.mount_core.Showing.{Showing}

-- the live ids of a mount's store, and the least format that it takes
abbrev pub ids_in : {V : Type 0} → {K : Type 0} → Mount V K → List Id
ids_in mount = live_ids (held_in (store_of mount)).state.lives

abbrev pub least_in : {V : Type 0} → {K : Type 0} → Mount V K → ℕ
least_in mount = (held_in (store_of mount)).state.least

-- what a batch makes of a mount's store
abbrev pub tower_applied : {V : Type 0} → (V → Option (List Call)) → Cached V → Cached V → Changes → Type 0
tower_applied trace a b changes = applied_by sealed_held (sealed_trace trace) a.store b.store changes

-- a record with an empty list is kept, without a mark, and says that only the newest format is taken
pub record KeepsNewest (kept : Option (List ℕ)) : Type 0 where
  pub state : PlainState
  pub keeps : KeepsRecord kept state []
  pub unmarked : state.marked ≡ false
  pub least : state.least ≡ 2

-- how many blocks were written anew: all, or none where all were new
abbrev pub Counts : {V : Type 0} → {K : Type 0} → Mount V K → Mount V K → ℕ → Type 0
Counts old new count = ((least_in old ≡ 2) × (count ≡ 0) × (new ≡ old)) ⊎ ((least_in old ≡ 1) × (count ≡ length (ids_in old)))

-- blocks were written anew and the record says so, or an error was met; after a violation the last record is marked
pub record MigratesMount {V : Type 0} {K : Type 0} (shows : Showing) (trace : V → Option (List Call)) (faults : V → ℕ) (G : KeeperGhosts K) (old : Mount V K) (result : Result ℕ MigrateError) (new : Mount V K) : Type 0 where
  pub opened : new.opened ≡ old.opened
  pub violated : new.core.violated ≡ is_violation (told result)
  pub count : IfOk result (Counts old new)
  pub stands : (kept now : Tree) → TowerStands shows trace faults G old.core kept now → forgeries_of trace faults new ≤ forgeries_of trace faults old
      → Left shows (tower trace faults G) new.core kept now now (is_violation (told result)) false
  -- where blocks were written anew the tree that is present is kept
  pub synced : OnOk result (least_in old ≡ 1 → (kept now : Tree) → TowerStands shows trace faults G old.core kept now → forgeries_of trace faults new ≤ forgeries_of trace faults old → TowerStands shows trace faults G new.core now now)
  pub configures : (may : List (List ℕ)) (now : List ℕ) → TowerConfigures trace G old.core may now
      → ConfigAnswered (tower_holdings trace) (tower_durables trace) records G new.core may now (is_violation (told result))
  pub alarm : (kept now : Tree) → TowerStands shows trace faults G old.core kept now → lies_of trace faults new ≤ lies_of trace faults old → is_violation (told result) ≡ false
  pub of_blocks : is_structure (told result) ≡ false
  pub found : OnFound (told result) (IsFoundSince (tower_meanings trace faults) (tower_durables trace) (store_of old) (store_of new))
  -- no wrong file that came is passed over
  pub noticed : PassesNone (tower_meanings trace faults) (tower_holdings trace) (tower_durables trace) (tower_applied trace) (store_of old) (told result) (store_of new)
  pub spent : OnSpent (told result) (IsSpentAmong (tower_holdings trace) (store_of old) (ids_in old))
  pub unspent : OnOk result (least_in old ≡ 1 → AreUnspent (tower_holdings trace) (store_of old) (ids_in old))
  pub raises : Raises (tower_holdings trace) (store_of old) (store_of new) (ids_in old)
  -- an error is met only where the older format was taken, and it is taken as before
  pub older : OnErr result (least_in old ≡ 1)
  pub least : OnErr result (least_in new ≡ 1)
  -- afterwards a record with an empty list is kept, which takes the newest format alone, and nothing is left to be saved
  pub kept : OnOk result (old.core.saver.changed ≡ false → KeepsNewest (kept_of G new))
  pub unchanged : OnOk result (old.core.saver.changed ≡ false → new.core.saver.changed ≡ false)
  pub goes_on : GoesOn (calls_of trace old) (calls_of trace new)
  pub forgeries : forgeries_of trace faults old ≤ forgeries_of trace faults new
  pub lies : lies_of trace faults old ≤ lies_of trace faults new
  pub unforged : (tower_meanings trace faults).sound (store_of old) → lies_of trace faults new ≤ lies_of trace faults old → forgeries_of trace faults new ≤ forgeries_of trace faults old
  -- each fault is told just where its count rose
  pub vault_cause : RoseBy (directory_faults (told result)) (vault_faults trace faults old) (vault_faults trace faults new)
  pub vault_quiet : directory_faults (told result) ≡ 0 → vault_faults trace faults new ≡ vault_faults trace faults old
  pub keeper_cause : RoseBy (state_faults (told result)) (keeper_faults G old) (keeper_faults G new)
  pub keeper_quiet : state_faults (told result) ≡ 0 → is_violation (told result) ≡ false → keeper_faults G new ≡ keeper_faults G old
  pub marked : is_violation (told result) ≡ true → IsKeptMarked records (kept_of G new) ⊎ RoseBy 1 (keeper_faults G old) (keeper_faults G new)
