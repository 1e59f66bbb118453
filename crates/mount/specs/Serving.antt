-- What the calls beside an answer leave of a mount.
use Rattle.std.specs.Prelude.{◌≡◌, ◌⊎◌, ◌≤◌, ℕ, true, false, List, [], Result, is_some, IsOk, IsErrOf, OnOk}
use Rattle.std.specs.declared.option.Option.{Option}
use Rattle.mount_stores.specs.aes_gcm.Gcm.{opened_of}
use Rattle.mount_stores.specs.config_file.ConfigOf.{IsOnly, opened as opened_as}
use Rattle.mount_stores.specs.config_file.Settings.{settings_of}
use Rattle.fs_model.specs.Tree.{Tree}
use Rattle.mount_stores.specs.block_versions.Forgeries.{forged}
use Rattle.mount_stores.specs.block_versions.Standing.{records}
use Rattle.outside.specs.Causes.{RoseBy}
use Rattle.outside.specs.Going.{GoesOn}
use Rattle.outside.specs.Honest.{is_lie, count_told}
use Rattle.outside.specs.Trace.{Call}
use Rattle.outside.specs.declared.keeper.Keeper.{Ghosts as KeeperGhosts}
use Rattle.mount_stores.specs.record_saver.Saving.{KeptConfigures, Leaves, UnlessDirectory, UnlessState}
use Rattle.mount_stores.specs.record_saver.declared.saver.SyncError.{SyncError}
use Rattle.mount_stores.specs.record_saver.declared.saver.SyncError.TheVariants.{Memory, FaultDirectory, FaultState}
use Rattle.mount_core.specs.Configuring.{ConfigClosed, ConfigSynced, Replaced}
use Rattle.mount_core.specs.Keeping.{IsSameOrRecord, ReplaceKeeps, SyncKeeps}
use Rattle.mount_core.specs.Formats.{StaysLeast}
use Rattle.mount_core.specs.Standing.{Synced}
use Rattle.mount_core.specs.Showing.{Showing}
use Rattle.mount_stores.specs.Identities.{HasEmptyList}
use Rattle.mount_stores.specs.Opening.{KeepsVersions}
use Rattle.mount_stores.specs.Tower.{vault_in, tower_holdings, tower_durables}
use Rattle.mount.specs.declared.mount.Mount.{Mount}
use Rattle.mount.specs.Answering.{store_of, calls_of, forgeries_of, lies_of, vault_faults, keeper_faults, version_of, kept_of}
use Rattle.mount.specs.Mounts.{IsReady, MountClosed}
use Rattle.mount.specs.Sealing.{AreSealed, view_of, view_closed, view_replaced}
use Rattle.mount.specs.Tower.{tower, TowerStands, TowerConfigures}

-- a call that syncs, whatever it answers
pub record MountMoves {V : Type 0} {K : Type 0} (trace : V → Option (List Call)) (faults : V → ℕ) (G : KeeperGhosts K) (old new : Mount V K) (result : Result Unit SyncError) : Type 0 where
  pub ready : IsReady trace faults G new
  pub opened : new.opened ≡ old.opened
  pub fresh : new.core.violated ≡ false
  pub leaves : Leaves (tower trace faults G) (store_of old) old.core.saver.keeper (store_of new) new.core.saver.keeper result
  pub least : StaysLeast (tower trace faults G) (store_of old) (kept_of G old) (kept_of G new)

-- what a sync makes of what is kept
pub record MountSyncs {V : Type 0} {K : Type 0} (shows : Showing) (trace : V → Option (List Call)) (faults : V → ℕ) (G : KeeperGhosts K) (old new : Mount V K) (result : Result Unit SyncError) : Type 0 where
  pub stands : (kept now : Tree) → TowerStands shows trace faults G old.core kept now → Synced shows (tower trace faults G) new.core kept now result
  pub configures : (may : List (List ℕ)) (now : List ℕ) → TowerConfigures trace G old.core may now → ConfigSynced (tower_holdings trace) (tower_durables trace) records G new.core may now result
  pub emptied : OnOk result (HasEmptyList (kept_of G new))
  pub ok : OnOk result (new.core.saver.changed ≡ false)
  -- also after an error, what was kept before or one of this mount's two records
  pub keeps : SyncKeeps (tower_durables trace) G (store_of old) old.core.saver new.core.saver
  pub unmoved : old.core.saver.changed ≡ false → IsOk result × (new ≡ old)
  -- no file is sealed
  pub sealed : AreSealed [] (view_of trace old) (view_of trace new)

-- what a change of the password to this one makes of it, by the file that was sealed
pub record ChangesPassword {V : Type 0} {K : Type 0} (shows : Showing) (trace : V → Option (List Call)) (faults : V → ℕ) (G : KeeperGhosts K) (old : Mount V K) (password file : List ℕ) (new : Mount V K) (result : Result Unit SyncError) : Type 0 where
  pub stands : (kept now : Tree) → TowerStands shows trace faults G old.core kept now → Synced shows (tower trace faults G) new.core kept now result
  pub configures : (may : List (List ℕ)) (now : List ℕ) → TowerConfigures trace G old.core may now → Replaced (tower_holdings trace) (tower_durables trace) records G new.core may now file result
  pub holds : is_some (calls_of trace old) ≡ true → OnOk result (KeptConfigures records (kept_of G new) (calls_of trace new) file)
  pub opens : IsOnly password file (opened_as (settings_of old.opened.config) old.opened.params) ⊎ (IsErrOf result Memory × (new ≡ old))
  pub emptied : OnOk result (HasEmptyList (kept_of G new))
  pub ok : OnOk result (new.core.saver.changed ≡ false)
  -- also after an error, what was kept before or one of this mount's two records with that file waiting
  pub keeps : ReplaceKeeps (tower trace faults G) (store_of old) file old.core.saver new.core.saver
  -- no block's file is sealed: what waits afterwards, and what was put or removed since, waited before, but for that file
  pub sealed : AreSealed [] (view_of trace old) (view_of trace new) ⊎ AreSealed [] (view_replaced file (view_of trace old)) (view_of trace new)

-- what a closing leaves of its directory and its keeper
pub record MountLeaves {V : Type 0} {K : Type 0} (trace : V → Option (List Call)) (faults : V → ℕ) (G : KeeperGhosts K) (mount : Mount V K) (closing : Result Unit SyncError) (vault : V) (keeper : K) : Type 0 where
  pub goes_on : GoesOn (calls_of trace mount) (trace vault)
  pub forgeries : count_told (forged (opened_of mount.opened.config.key) mount.opened.config.block_size) (trace vault) ≡ forgeries_of trace faults mount
  pub lies : count_told is_lie (trace vault) ≡ lies_of trace faults mount
  -- each fault is told just where its count rose
  pub vault_grows : vault_faults trace faults mount ≤ faults vault
  pub vault_cause : IsErrOf closing FaultDirectory → RoseBy 1 (vault_faults trace faults mount) (faults vault)
  pub vault_quiet : UnlessDirectory closing (faults vault ≡ vault_faults trace faults mount)
  pub keeper_grows : keeper_faults G mount ≤ G.faults keeper
  pub keeper_cause : IsErrOf closing FaultState → RoseBy 1 (keeper_faults G mount) (G.faults keeper)
  pub keeper_quiet : UnlessState closing (G.faults keeper ≡ keeper_faults G mount)

-- and what it keeps
pub record MountCloses {V : Type 0} {K : Type 0} (shows : Showing) (trace : V → Option (List Call)) (faults : V → ℕ) (G : KeeperGhosts K) (mount : Mount V K) (closing : Result Unit SyncError) (vault : V) (keeper : K) : Type 0 where
  pub stands : (kept now : Tree) → mount.core.violated ≡ false → TowerStands shows trace faults G mount.core kept now
      → MountClosed shows (settings_of mount.opened.config) (G.kept keeper) (trace vault) kept now closing
  pub configures : (may : List (List ℕ)) (now : List ℕ) → mount.core.violated ≡ false → TowerConfigures trace G mount.core may now → ConfigClosed records (G.kept keeper) (trace vault) may now closing
  pub left : (mount.core.violated ≡ true) ⊎ (mount.core.saver.changed ≡ false) → IsOk closing × (vault ≡ vault_in (store_of mount)) × (keeper ≡ mount.core.saver.keeper)
  pub emptied : mount.core.violated ≡ false → OnOk closing (HasEmptyList (G.kept keeper))
  pub versions : mount.core.violated ≡ false → OnOk closing (KeepsVersions (G.kept keeper) (version_of trace mount))
  -- also after an error, what was kept before or one of this mount's two records
  pub kept : mount.core.violated ≡ false → IsSameOrRecord (tower_durables trace) (store_of mount) (kept_of G mount) (G.kept keeper)
  pub least : StaysLeast (tower trace faults G) (store_of mount) (kept_of G mount) (G.kept keeper)
  -- no file is sealed
  pub sealed : AreSealed [] (view_of trace mount) (view_closed (trace vault))
