-- What a run of a check found, and what it leaves.
use Rattle.std.specs.Prelude.{◌≡◌, ◌⊎◌, ◌≤◌, ℕ, true, false, List, IfErr, IsOk}
use Rattle.std.specs.declared.option.Option.{Option}
use Rattle.setup_runs.specs.config_file.Settings.{Settings, settings_of}
use Rattle.setup_runs.specs.config_file.declared.config.Opened.{Opened}
use Rattle.fs_model.specs.Tree.{Tree}
use Rattle.block_versions.specs.Standing.{records}
use Rattle.setup_runs.specs.mount.Mounts.{Attached}
use Rattle.setup_runs.specs.mount.declared.mount.Mount.{Mount}
use Rattle.check_blocks.specs.declared.examined.Examined.{Examined}
use Rattle.setup_runs.specs.mount_core.Standing.{IsKeptMarked}
use Rattle.check_walk.specs.store_outcome.Meanings.{HasCause, IsQuiet}
use Rattle.outside.specs.Causes.{RoseBy}
use Rattle.outside.specs.Trace.{Call}
use Rattle.outside.specs.declared.keeper.Keeper.{Ghosts as KeeperGhosts}
use Rattle.setup_runs.specs.session_laws.Openings.{StayOpen}
use Rattle.setup_runs.specs.session_laws.Resting.{OnlyGot}
use Rattle.setup_runs.specs.session_laws.Runs.{outside_of, OpensTo, IsExaminedRun}
use Rattle.setup_runs.specs.session_laws.Turns.{Closing}
use Rattle.setup_runs.specs.mount_core.Showing.{ShowsFiles}
use Rattle.check_runs.specs.declared.examining.Examination.{Examination}
use Rattle.check_runs.specs.Judging.{is_bad, held_for, IsJudged, Judges, Settles}

-- an opened mount was judged, condemned where something bad was found, and closed
pub record Examines {V : Type 0} {K : Type 0} (trace : V → Option (List Call)) (faults : V → ℕ) (G : KeeperGhosts K) (mount : Mount V K) (x : Examination V K) : Type 0 where
  pub judged : Examined V K
  pub judges : Judges trace faults G (record { mount = mount }) judged x.verdict
  pub settled : Mount V K
  pub settles : Settles trace faults G (is_bad x.verdict) judged.mount settled
  pub closed : Closing ShowsFiles trace faults G settled x.closing x.vault x.keeper

-- what the run leaves of its directory and its keeper
pub record LeavesExamined {V : Type 0} {K : Type 0} (trace : V → Option (List Call)) (faults : V → ℕ) (G : KeeperGhosts K) (vault : V) (keeper : K) (kept : Option (List ℕ)) (calls : Option (List Call)) (x : Examination V K) : Type 0 where
  -- closing has nothing to do
  pub closed : IsOk x.closing
  -- after opening the directory was only asked for blocks, and it failed just where a fault is the answer
  pub only_got : OnlyGot calls (trace x.vault)
  pub vault_grows : faults vault ≤ faults x.vault
  pub vault_cause : IfErr x.verdict (λ fail. HasCause fail (faults vault) (faults x.vault))
  pub vault_quiet : IsQuiet x.verdict (faults vault) (faults x.vault)
  -- after something bad the mark was saved, or that save failed; else nothing was saved
  pub condemned : is_bad x.verdict ≡ true → IsKeptMarked records (G.kept x.keeper) ⊎ RoseBy 1 (G.faults keeper) (G.faults x.keeper)
  pub unsaved : is_bad x.verdict ≡ false → (G.kept x.keeper ≡ kept) × (G.faults x.keeper ≡ G.faults keeper)
  pub keeper_grows : G.faults keeper ≤ G.faults x.keeper

-- Under the password a file system was opened, checked and closed.
pub record IsExamined {V : Type 0} {K : Type 0} (trace : V → Option (List Call)) (faults : V → ℕ) (G : KeeperGhosts K) (password : List ℕ) (vault : V) (keeper : K) (x : Examination V K) : Type 0 where
  pub o : Opened
  pub kept : Option (List ℕ)
  pub calls : Option (List Call)
  pub attached : Attached password (G.kept keeper) kept (trace vault) calls o
  -- the verdict is one on the blocks that the record calls for, from the configuration's root on
  pub judged : IsJudged (held_for (settings_of o.config) attached.state) (settings_of o.config).root calls (trace x.vault) x.verdict
  pub leaves : LeavesExamined trace faults G vault keeper kept calls x
  -- it is the configuration under which what was kept stood for a tree
  pub config : (c : Settings) (tree : Tree) → OpensTo ShowsFiles password c tree (outside_of trace faults G vault keeper) (outside_of trace faults G x.vault x.keeper) → settings_of o.config ≡ c
  pub unmarked : ¬ IsKeptMarked records (G.kept keeper)
  pub run : IsExaminedRun ShowsFiles password (outside_of trace faults G vault keeper) (outside_of trace faults G x.vault x.keeper) (is_bad x.verdict)
  pub opens : StayOpen (outside_of trace faults G vault keeper) (outside_of trace faults G x.vault x.keeper)
