-- How a session begins and ends, by the mount that it opened.
use Rattle.std.specs.Prelude.{◌≡◌, ℕ, List, Result}
use Rattle.std.specs.declared.option.Option.{Option}
use Rattle.run_frame.specs.answers.Hosts.{Ran}
use Rattle.run_frame.specs.answers.Sessions.{Exchange}
use Rattle.outside.specs.Trace.{Call}
use Rattle.outside.specs.declared.keeper.Keeper.{Ghosts as KeeperGhosts}
use Rattle.mount.specs.record_saver.declared.saver.SyncError.{SyncError}
use Rattle.mount.specs.mount_core.Showing.{Showing}
use Rattle.mount.specs.declared.mount.Mount.{Mount}
use Rattle.mount.specs.Attaching.{IsNewlyOpened, StandsForKept, OpensByCalls}
use Rattle.mount.specs.Formats.{TakesFrom}
use Rattle.mount.specs.Mounts.{Attached}
use Rattle.mount.specs.Serving.{MountLeaves, MountCloses}
use Rattle.run_frame.specs.mount_stores.Opening.{AreKnown}
use Rattle.run_frame.specs.mount_stores.Tower.{tower_durables}
use Rattle.session_laws.specs.Answering.{store_of, calls_of, version_of, kept_of, mount_hosting}

-- the mount that was opened under the password: what it is, what was found, what it stands for and what was called
pub record Begun {V : Type 0} {K : Type 0} (shows : Showing) (trace : V → Option (List Call)) (faults : V → ℕ) (G : KeeperGhosts K) (password : List ℕ) (vault : V) (keeper : K) (mount : Mount V K) : Type 0 where
  pub opened : IsNewlyOpened trace faults G mount
  pub attached : Attached password (G.kept keeper) (kept_of G mount) (trace vault) (calls_of trace mount) mount.opened
  pub versions : AreKnown (G.kept keeper) (version_of trace mount)
  pub stands : StandsForKept shows trace faults G password vault keeper mount
  pub calls : OpensByCalls trace faults G vault keeper mount
  -- it takes block files from the format on that the record does
  pub level : (least : ℕ) → TakesFrom least (G.kept keeper) → (tower_durables trace).least (store_of mount) ≡ least

-- the mount was closed with this answer, and gave back its directory and its keeper
pub record Closing {V : Type 0} {K : Type 0} (shows : Showing) (trace : V → Option (List Call)) (faults : V → ℕ) (G : KeeperGhosts K) (mount : Mount V K) (closing : Result Unit SyncError) (vault : V) (keeper : K) : Type 0 where
  pub leaves : MountLeaves trace faults G mount closing vault keeper
  pub closes : MountCloses shows trace faults G mount closing vault keeper

-- The session was one of a mount: this one was opened under the password, gave one answer after another to what was asked, each at its moment, and left as that one it was closed.
pub record OnMount {V : Type 0} {K : Type 0} (shows : Showing) (trace : V → Option (List Call)) (faults : V → ℕ) (G : KeeperGhosts K) (password : List ℕ) (vault : V) (keeper : K) (closing : Result Unit SyncError) (last_vault : V) (last_keeper : K) (es : List Exchange) : Type 0 where
  pub opened : Mount V K
  pub left : Mount V K
  pub begun : Begun shows trace faults G password vault keeper opened
  pub ran : Ran (mount_hosting (λ m. m) shows trace faults G) opened es left
  pub closed : Closing shows trace faults G left closing last_vault last_keeper
