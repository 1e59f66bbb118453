-- What a run of a survey found, and what it leaves.
use Rattle.std.specs.Prelude.{◌≡◌, ◌≤◌, ◌+◌, ℕ, Bool, true, false, List, [], Result, Ok, Err, OnOk, OnErr, IsOk, map}
use Rattle.std.specs.declared.option.Option.{Option}
use Rattle.block_id.specs.declared.fail.Fail.{Fail}
use Rattle.block_id.specs.declared.fail.Fail.TheVariants.{Memory, Fault, Violation}
use Rattle.block_id.specs.declared.fail.Memory as memory
use Rattle.check_refused.specs.Surveys.{IsSurvey, IsCutShort, failures, refusals, ungiven_of}
use Rattle.check_refused.specs.declared.survey.Ungiven.{Ungiven}
use Rattle.check_refused.specs.cryfs_check.declared.checking.Checked.{Checked}
use Rattle.check_refused.specs.cryfs_check.declared.checking.Checked.TheVariants.{Yes, No}
use Rattle.setup_runs.specs.config_file.Settings.{Settings, settings_of}
use Rattle.setup_runs.specs.config_file.declared.config.Opened.{Opened}
use Rattle.fs_model.specs.Tree.{Tree}
use Rattle.block_versions.specs.Held.{Held}
use Rattle.block_versions.specs.Standing.{records}
use Rattle.block_versions.specs.local_state.Known.{live_ids}
use Rattle.setup_runs.specs.mount.Answering.{store_of, lies_of, vault_faults}
use Rattle.setup_runs.specs.mount.Mounts.{IsReady, Attached}
use Rattle.setup_runs.specs.mount.declared.mount.Mount.{Mount}
use Rattle.check_blocks.specs.Examined.{OnlyExamined, held_of, trace_of}
use Rattle.check_blocks.specs.declared.examined.Examined.{Examined}
use Rattle.setup_runs.specs.mount_core.Standing.{IsKeptMarked}
use Rattle.setup_runs.specs.mount_stores.Tower.{tower_holdings, tower_meanings}
use Rattle.outside.specs.Causes.{RoseBy}
use Rattle.outside.specs.Trace.{Call}
use Rattle.outside.specs.declared.keeper.Keeper.{Ghosts as KeeperGhosts}
use Rattle.setup_runs.specs.session_laws.Openings.{StayOpen}
use Rattle.setup_runs.specs.session_laws.Resting.{OnlyGot}
use Rattle.setup_runs.specs.session_laws.Runs.{outside_of, lies, OpensTo, IsQuietRun}
use Rattle.setup_runs.specs.session_laws.Turns.{Closing}
use Rattle.block_versions.specs.store_api.Holdings.{Stays}
use Rattle.setup_runs.specs.mount_core.Showing.{ShowsFiles}
use Rattle.check_runs.specs.Judging.{is_bad, held_for, read_by, IsJudged, Judges}
use Rattle.check_runs.specs.declared.surveying.Survey.{Survey}

-- a flaw, a violation or a fault was found, so that each live block is to be asked for
abbrev pub needs_survey : Result Checked Fail → Bool
needs_survey (Ok (Yes owners)) = false
needs_survey (Ok (No flaw)) = true
needs_survey (Err Memory) = false
needs_survey (Err Fault) = true
needs_survey (Err (Violation why)) = true

-- how many faults of the directory are told: that of the check, and each block's
abbrev pub faults_told : Result Checked Fail → List Ungiven → ℕ
faults_told (Err Fault) ungiven = 1 + failures (map ungiven_of ungiven)
faults_told verdict ungiven = failures (map ungiven_of ungiven)

-- Each live block was asked for once, and those that weren't given are told; or no more than the first of them were asked for. Then blocks were got to find their paths.
pub record IsSurveyed (h : Held) (old new : Option (List Call)) (ungiven : List Ungiven) (end : Result Unit memory.Memory) : Type 0 where
  pub mid : Option (List Call)
  pub all : OnOk end (IsSurvey (read_by h) (live_ids h.state.lives) old mid (map ungiven_of ungiven))
  pub cut : OnErr end (IsCutShort (read_by h) (live_ids h.state.lives) old mid (map ungiven_of ungiven))
  pub rest : OnlyGot mid new

-- ---- of a mount

-- what a survey leaves of a mount, whose blocks were only loaded
pub record SurveysAll {V : Type 0} {K : Type 0} (trace : V → Option (List Call)) (faults : V → ℕ) (G : KeeperGhosts K) (old new : Examined V K) (ungiven : List Ungiven) (end : Result Unit memory.Memory) : Type 0 where
  pub ready : IsReady trace faults G new.mount
  pub only : OnlyExamined trace faults old.mount new.mount
  pub stays : Stays (tower_holdings trace) (store_of old.mount) (store_of new.mount)
  -- each fault that is told was met
  pub rose : RoseBy (failures (map ungiven_of ungiven)) (vault_faults trace faults old.mount) (vault_faults trace faults new.mount)
  -- where each file was what was last written, no block is refused
  pub calm : (tower_meanings trace faults).sound (store_of old.mount) → lies_of trace faults new.mount ≤ lies_of trace faults old.mount → refusals (map ungiven_of ungiven) ≡ 0
  pub surveyed : IsSurveyed (held_of old) (trace_of trace old) (trace_of trace new) ungiven end

-- blocks were only loaded, and the same ones are told
pub record Places {V : Type 0} {K : Type 0} (trace : V → Option (List Call)) (faults : V → ℕ) (G : KeeperGhosts K) (old new : Examined V K) (before after : List Ungiven) : Type 0 where
  pub ready : IsReady trace faults G new.mount
  pub only : OnlyExamined trace faults old.mount new.mount
  pub stays : Stays (tower_holdings trace) (store_of old.mount) (store_of new.mount)
  pub same : map ungiven_of after ≡ map ungiven_of before

-- there was no need of one
pub record SurveysNone {V : Type 0} {K : Type 0} (old new : Examined V K) (ungiven : List Ungiven) (end : Result Unit memory.Memory) : Type 0 where
  pub same : new ≡ old
  pub none : ungiven ≡ []
  pub ok : IsOk end

abbrev pub SurveysIf : {V : Type 0} → {K : Type 0} → (V → Option (List Call)) → (V → ℕ) → KeeperGhosts K → Bool → Examined V K → Examined V K → List Ungiven → Result Unit memory.Memory → Type 0
SurveysIf trace faults G true old new ungiven end = SurveysAll trace faults G old new ungiven end
SurveysIf trace faults G false old new ungiven end = SurveysNone old new ungiven end

-- an opened mount was judged, surveyed where something was found, and closed
pub record Looks {V : Type 0} {K : Type 0} (trace : V → Option (List Call)) (faults : V → ℕ) (G : KeeperGhosts K) (mount : Mount V K) (x : Survey V K) : Type 0 where
  pub judged : Examined V K
  pub judges : Judges trace faults G (record { mount = mount }) judged x.verdict
  pub surveyed : Examined V K
  pub surveys : SurveysIf trace faults G (needs_survey x.verdict) judged surveyed x.ungiven.items x.end
  pub closed : Closing ShowsFiles trace faults G surveyed.mount x.closing x.vault x.keeper

-- ---- of a run

-- what the run leaves of its directory and its keeper
pub record LeavesSurveyed {V : Type 0} {K : Type 0} (trace : V → Option (List Call)) (faults : V → ℕ) (G : KeeperGhosts K) (vault : V) (keeper : K) (kept : Option (List ℕ)) (calls : Option (List Call)) (x : Survey V K) : Type 0 where
  -- closing has nothing to do
  pub closed : IsOk x.closing
  -- after opening the directory was only asked for blocks, and it failed once at least for each fault that is told
  pub only_got : OnlyGot calls (trace x.vault)
  pub vault_grows : faults vault ≤ faults x.vault
  pub vault_cause : RoseBy (faults_told x.verdict x.ungiven.items) (faults vault) (faults x.vault)
  pub vault_quiet : needs_survey x.verdict ≡ false → faults x.vault ≡ faults vault
  -- nothing was saved
  pub unsaved : G.kept x.keeper ≡ kept
  pub keeper_quiet : G.faults x.keeper ≡ G.faults keeper

-- Under the password a file system was opened, checked, surveyed after a flaw, a violation or a fault, and closed.
pub record IsSurveyedRun {V : Type 0} {K : Type 0} (trace : V → Option (List Call)) (faults : V → ℕ) (G : KeeperGhosts K) (password : List ℕ) (vault : V) (keeper : K) (x : Survey V K) : Type 0 where
  pub o : Opened
  pub kept : Option (List ℕ)
  pub calls : Option (List Call)
  pub attached : Attached password (G.kept keeper) kept (trace vault) calls o
  -- the calls after the check
  pub between : Option (List Call)
  -- the verdict is one on the blocks that the record calls for, from the configuration's root on
  pub judged : IsJudged (held_for (settings_of o.config) attached.state) (settings_of o.config).root calls between x.verdict
  -- and the survey is one of them
  pub surveyed : needs_survey x.verdict ≡ true → IsSurveyed (held_for (settings_of o.config) attached.state) between (trace x.vault) x.ungiven.items x.end
  pub unsurveyed : needs_survey x.verdict ≡ false → trace x.vault ≡ between
  pub leaves : LeavesSurveyed trace faults G vault keeper kept calls x
  -- it is the configuration under which what was kept stood for a tree
  pub config : (c : Settings) (tree : Tree) → OpensTo ShowsFiles password c tree (outside_of trace faults G vault keeper) (outside_of trace faults G x.vault x.keeper) → settings_of o.config ≡ c
  pub unmarked : ¬ IsKeptMarked records (G.kept keeper)
  pub quiet : IsQuietRun ShowsFiles password (outside_of trace faults G vault keeper) (outside_of trace faults G x.vault x.keeper)
  -- where it stood for a tree and each file was what was last written, nothing bad was found and no block is refused
  pub calm : (c : Settings) (tree : Tree) → OpensTo ShowsFiles password c tree (outside_of trace faults G vault keeper) (outside_of trace faults G x.vault x.keeper)
      → lies (outside_of trace faults G x.vault x.keeper) ≤ lies (outside_of trace faults G vault keeper) → (is_bad x.verdict ≡ false) × (refusals (map ungiven_of x.ungiven.items) ≡ 0)
  pub opens : StayOpen (outside_of trace faults G vault keeper) (outside_of trace faults G x.vault x.keeper)
