-- What condemning leaves of a mount.
use Rattle.std.specs.Prelude.{◌≡◌, ◌⊎◌, ◌≤◌, ℕ, true, List}
use Rattle.std.specs.declared.option.Option.{Option}
use Rattle.std.specs.declared.option.Option.TheVariants.{Some}
use Rattle.mount.specs.block_versions.Standing.{records}
use Rattle.mount.specs.declared.mount.Mount.{Mount}
use Rattle.mount.specs.Answering.{calls_of, keeper_faults, kept_of}
use Rattle.mount.specs.Mounts.{IsReady}
use Rattle.mount.specs.Tower.{TowerConfigures}
use Rattle.mount_opening.specs.mount_core.Configuring.{KeptOneOf}
use Rattle.mount_opening.specs.mount_core.Standing.{IsKeptMarked}
use Rattle.outside.specs.Causes.{RoseBy}
use Rattle.outside.specs.Trace.{Call}
use Rattle.outside.specs.declared.keeper.Keeper.{Ghosts as KeeperGhosts}
use Rattle.mount_opening.specs.store_api.Durables.{with_mark}

-- The mark was saved, or that save failed. The directory wasn't called, and as after a violation the mount serves no more.
pub record Condemns {V : Type 0} {K : Type 0} (trace : V → Option (List Call)) (faults : V → ℕ) (G : KeeperGhosts K) (old new : Mount V K) : Type 0 where
  pub ready : IsReady trace faults G new
  pub violated : new.core.violated ≡ true
  pub opened : new.opened ≡ old.opened
  pub root : new.core.root ≡ old.core.root
  pub blobs : new.core.blobs.tx ≡ old.core.blobs.tx
  -- what is kept is the last record with its mark set, or what was
  pub kept : (kept_of G new ≡ Some (with_mark old.core.saver.last.items)) ⊎ (kept_of G new ≡ kept_of G old)
  pub marked : IsKeptMarked records (kept_of G new) ⊎ RoseBy 1 (keeper_faults G old) (keeper_faults G new)
  pub keeper_grows : keeper_faults G old ≤ keeper_faults G new
  -- the configuration's file holds what it did
  pub configures : (may : List (List ℕ)) (present : List ℕ) → TowerConfigures trace G old.core may present → KeptOneOf records (kept_of G new) (calls_of trace new) may
