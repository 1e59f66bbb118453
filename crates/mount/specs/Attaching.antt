-- What the mount that was opened is, stands for and called.
use Rattle.std.specs.Prelude.{◌≡◌, ◌≤◌, ℕ, true, false, List, [], ◌∷◌, is_some}
use Rattle.std.specs.declared.option.Option.{Option}
use Rattle.mount_stores.specs.aes_gcm.Gcm.{opened_of}
use Rattle.mount_stores.specs.config_file.Settings.{Settings, settings_of}
use Rattle.fs_model.specs.Tree.{Tree}
use Rattle.mount_stores.specs.block_versions.Forgeries.{forged}
use Rattle.mount_stores.specs.block_versions.Standing.{records}
use Rattle.outside.specs.Honest.{is_lie, count_told}
use Rattle.outside.specs.Trace.{Call}
use Rattle.outside.specs.declared.keeper.Keeper.{Ghosts as KeeperGhosts}
use Rattle.mount_stores.specs.record_saver.Saving.{KeptConfigures}
use Rattle.mount_core.specs.Showing.{Showing}
use Rattle.mount_stores.specs.Unforged.{IsUnforgedConfig}
use Rattle.mount.specs.declared.mount.Mount.{Mount}
use Rattle.mount.specs.Answering.{calls_of, forgeries_of, lies_of, vault_faults, keeper_faults}
use Rattle.mount.specs.Mounts.{IsReady}
use Rattle.mount.specs.Representing.{Represents}
use Rattle.mount.specs.Tower.{TowerStands, TowerConfigures}

-- it can be called, there was no violation, and nothing is left to be saved
pub record IsNewlyOpened {V : Type 0} {K : Type 0} (trace : V → Option (List Call)) (faults : V → ℕ) (G : KeeperGhosts K) (mount : Mount V K) : Type 0 where
  pub ready : IsReady trace faults G mount
  pub fresh : mount.core.violated ≡ false
  pub unchanged : mount.core.saver.changed ≡ false

-- it stands for what was kept: by the configuration that isn't forged, for its tree and its configuration's file
pub record StandsForKept {V : Type 0} {K : Type 0} (shows : Showing) (trace : V → Option (List Call)) (faults : V → ℕ) (G : KeeperGhosts K) (password : List ℕ) (vault : V) (keeper : K) (mount : Mount V K) : Type 0 where
  pub config : (c : Settings) → is_some (trace vault) ≡ true → IsUnforgedConfig password (G.kept keeper) (trace vault) (calls_of trace mount) c → settings_of mount.opened.config ≡ c
  pub tree : (first : Tree) → Represents shows (G.kept keeper) (trace vault) (settings_of mount.opened.config) first → TowerStands shows trace faults G mount.core first first
  pub file : (bytes : List ℕ) → is_some (trace vault) ≡ true → KeptConfigures records (G.kept keeper) (trace vault) bytes → TowerConfigures trace G mount.core (bytes ∷ []) bytes

-- no block was read, and no call failed
pub record OpensByCalls {V : Type 0} {K : Type 0} (trace : V → Option (List Call)) (faults : V → ℕ) (G : KeeperGhosts K) (vault : V) (keeper : K) (mount : Mount V K) : Type 0 where
  pub forgeries : forgeries_of trace faults mount ≡ count_told (forged (opened_of mount.opened.config.key) mount.opened.config.block_size) (trace vault)
  pub lies : count_told is_lie (trace vault) ≤ lies_of trace faults mount
  pub vault_quiet : vault_faults trace faults mount ≡ faults vault
  pub keeper_quiet : keeper_faults G mount ≡ G.faults keeper
