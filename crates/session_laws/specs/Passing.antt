-- Where the answers of a session leave a mount, from the first on. The newest exchange and tree stand first.
use Rattle.std.specs.Prelude.{◌≡◌, ◌⊎◌, ◌≤◌, ℕ, ◌+◌, Bool, true, false, List, length}
use Rattle.std.specs.declared.option.Option.{Option}
use Rattle.fs_model.specs.Tree.{Tree}
use Rattle.outside.specs.Causes.{RoseBy}
use Rattle.outside.specs.Going.{GoesOn}
use Rattle.outside.specs.Trace.{Call}
use Rattle.outside.specs.declared.keeper.Keeper.{Ghosts as KeeperGhosts}
use Rattle.run_frame.specs.answers.Sessions.{Exchange, IsSession, IsKeptPoint, latest, violated, all_directory_faults, all_state_faults}
use Rattle.mount.specs.block_versions.Standing.{records}
use Rattle.mount.specs.mount_core.Configuring.{ConfigAnswered}
use Rattle.mount.specs.mount_core.Showing.{Showing}
use Rattle.mount.specs.mount_core.Formats.{StaysLeast}
use Rattle.mount.specs.mount_core.Standing.{IsKeptMarked, Keeps}
use Rattle.mount.specs.declared.mount.Mount.{Mount}
use Rattle.mount.specs.Tower.{tower, TowerStands, TowerConfigures}
use Rattle.run_frame.specs.mount_stores.Opening.{KeepsVersions}
use Rattle.run_frame.specs.mount_stores.Tower.{tower_holdings, tower_durables}
use Rattle.session_laws.specs.Answering.{store_of, calls_of, forgeries_of, lies_of, vault_faults, keeper_faults, version_of, kept_of}
use Rattle.session_laws.specs.Causes.{AreAnswered, AreBuilt, AreSpent}
use Rattle.session_laws.specs.Resting.{AreIdle, Rested}

-- what is kept stands for this tree in the mount's store
abbrev pub MountKeeps : {V : Type 0} → {K : Type 0} → Showing → (V → Option (List Call)) → KeeperGhosts K → Mount V K → Tree → Type 0
MountKeeps shows trace G mount tree = Keeps records (shows ((tower_holdings trace).payload (store_of mount)) mount.core.root.0)
    ((tower_durables trace).identity (store_of mount)) (kept_of G mount) (calls_of trace mount) tree

-- after a violation a record is kept that is marked, or that stands for the tree of a kept point; else the mount stands for
-- the tree of a kept point and for the last one
abbrev pub LeftAt : {V : Type 0} → {K : Type 0} → Showing → (V → Option (List Call)) → (V → ℕ) → KeeperGhosts K → Mount V K → Tree → List Exchange → List Tree → Bool → Type 0
LeftAt shows trace faults G mount first es trees true = IsKeptMarked records (kept_of G mount) ⊎ ((kept : Tree) × IsKeptPoint first es trees kept × MountKeeps shows trace G mount kept)
LeftAt shows trace faults G mount first es trees false = (kept : Tree) × IsKeptPoint first es trees kept × TowerStands shows trace faults G mount.core kept (latest first trees)

-- a record without a mark is kept, and its versions are these at most
abbrev pub KeepsAtMost : (List ℕ → ℕ) → Option (List ℕ) → Type 0
KeepsAtMost most kept = (version : List ℕ → ℕ) × KeepsVersions kept version × ((id : List ℕ) → version id ≤ most id)

-- what is kept is marked, after a violation alone; or it is what it was; or such a record
abbrev pub KeptAfter : Bool → (List ℕ → ℕ) → Option (List ℕ) → Option (List ℕ) → Type 0
KeptAfter bad most old new = ((bad ≡ true) × IsKeptMarked records new) ⊎ ((new ≡ old) ⊎ KeepsAtMost most new)

-- these trees and the exchanges are a session
pub record PassedTrees {V : Type 0} {K : Type 0} (shows : Showing) (trace : V → Option (List Call)) (faults : V → ℕ) (G : KeeperGhosts K) (old new : Mount V K) (first : Tree) (es : List Exchange) : Type 0 where
  pub trees : List Tree
  pub session : IsSession first es trees
  pub left : LeftAt shows trace faults G new first es trees (violated es)
  pub alarm : lies_of trace faults new ≤ lies_of trace faults old → violated es ≡ false
  pub built : AreBuilt es

-- the exchanges led from the one mount, in which there was no violation, to the other
pub record Passed {V : Type 0} {K : Type 0} (shows : Showing) (trace : V → Option (List Call)) (faults : V → ℕ) (G : KeeperGhosts K) (old new : Mount V K) (es : List Exchange) : Type 0 where
  pub flag : new.core.violated ≡ violated es
  pub answered : AreAnswered es
  pub rose : (id : List ℕ) → version_of trace new id ≤ version_of trace old id + length es
  pub spent : AreSpent (version_of trace old) es
  pub opened : new.opened ≡ old.opened
  pub identity : (tower_durables trace).identity (store_of new) ≡ (tower_durables trace).identity (store_of old)
  pub level : (tower_durables trace).least (store_of new) ≡ (tower_durables trace).least (store_of old)
  pub least : StaysLeast (tower trace faults G) (store_of old) (kept_of G old) (kept_of G new)
  -- where nothing was to be saved at first
  pub rests : old.core.saver.changed ≡ false → AreIdle es → Rested trace faults old new
  pub goes_on : GoesOn (calls_of trace old) (calls_of trace new)
  pub forgeries : forgeries_of trace faults old ≤ forgeries_of trace faults new
  pub lies : lies_of trace faults old ≤ lies_of trace faults new
  pub vault_cause : RoseBy (all_directory_faults es) (vault_faults trace faults old) (vault_faults trace faults new)
  pub keeper_cause : RoseBy (all_state_faults es) (keeper_faults G old) (keeper_faults G new)
  pub vault_quiet : all_directory_faults es ≡ 0 → vault_faults trace faults new ≡ vault_faults trace faults old
  pub keeper_quiet : violated es ≡ false → all_state_faults es ≡ 0 → keeper_faults G new ≡ keeper_faults G old
  pub marked : violated es ≡ true → IsKeptMarked records (kept_of G new) ⊎ RoseBy (all_state_faults es + 1) (keeper_faults G old) (keeper_faults G new)
  pub keeps : ((tower_durables trace).identity (store_of old)).marked ≡ false → KeptAfter (violated es) (λ id. version_of trace old id + length es) (kept_of G old) (kept_of G new)
  pub configures : (may : List (List ℕ)) (present : List ℕ) → TowerConfigures trace G old.core may present
      → ConfigAnswered (tower_holdings trace) (tower_durables trace) records G new.core may present (violated es)
  pub unforged : (first : Tree) → TowerStands shows trace faults G old.core first first → lies_of trace faults new ≤ lies_of trace faults old → forgeries_of trace faults new ≤ forgeries_of trace faults old
  pub passes : (first : Tree) → TowerStands shows trace faults G old.core first first → forgeries_of trace faults new ≤ forgeries_of trace faults old
      → PassedTrees shows trace faults G old new first es
