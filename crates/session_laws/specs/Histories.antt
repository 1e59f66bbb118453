-- Runs, one after another, from a kept tree on. The newest stands first.
use Rattle.std.specs.Prelude.{◌≡◌, ◌⊎◌, ◌≤◌, ◌||◌, ℕ, Bool, true, false, List, [], ◌∷◌, Result}
use Rattle.std.specs.declared.option.Option.{Option}
use Rattle.std.specs.declared.result.Result.TheVariants.{Ok}
use Rattle.block_id.specs.declared.id.BlockId.{BlockId}
use Rattle.run_frame.specs.answers.Sessions.{Exchange, IsSession, IsKeptPoint, latest, violated}
use Rattle.mount.specs.config_file.ConfigOf.{ConfigOf, locked}
use Rattle.mount.specs.config_file.Settings.{Settings}
use Rattle.mount.specs.config_file.declared.error.ConfigError.TheVariants as config_error
use Rattle.fs_model.specs.Tree.{Tree, empty_tree}
use Rattle.mount.specs.aes_gcm.Gcm.{opened_of}
use Rattle.mount.specs.block_versions.Forgeries.{forged}
use Rattle.mount.specs.block_versions.Standing.{records}
use Rattle.outside.specs.Going.{GoesOn}
use Rattle.outside.specs.Trace.{Call}
use Rattle.outside.specs.Honest.{NonePassSince}
use Rattle.outside.specs.HonestLaws.{none_since_where_no_rise, no_rise_where_none_since}
use Rattle.mount.specs.record_saver.Saving.{KeptConfigures}
use Rattle.mount.specs.record_saver.declared.saver.SyncError.{SyncError}
use Rattle.mount.specs.mount_core.Showing.{Showing}
use Rattle.mount.specs.mount_core.Standing.{IsKeptMarked}
use Rattle.mount.specs.Making.{Created}
use Rattle.mount.specs.Opening.{AttachCause}
use Rattle.run_frame.specs.mount_stores.declared.error.OpenError.{OpenError}
use Rattle.run_frame.specs.mount_stores.declared.error.OpenError.TheVariants.{Mismatch, NoConfig, Config as OfConfig}
use Rattle.run_frame.specs.mount_stores.Unforged.{IsOnlyConfig, IsUnforgedConfig}
use Rattle.session_laws.specs.Causes.{AreBuilt}
use Rattle.session_laws.specs.Runs.{Outside, OutsideStandsFor, PasswordOpens, forgeries, lies, AreCalm, IsSessionRun, IsQuietRun, IsExaminedRun, IsMigrationRun, IsLookedRun}

-- a run: the session of some exchanges, closed so, one of no lines, a check that was bad or not, or one that wrote the blocks anew and met a violation or didn't, each under a password; or one that only looked; from the one moment outside to the other
pub data Run : Type 0 where
  session : List ℕ → Outside → Outside → Result Unit SyncError → List Exchange → Run
  quiet : List ℕ → Outside → Outside → Run
  examined : List ℕ → Outside → Outside → Bool → Run
  migrated : List ℕ → Outside → Outside → Bool → Run
  looked : Outside → Outside → Run

abbrev pub before_of : Run → Outside
before_of (session password before after closing es) = before
before_of (quiet password before after) = before
before_of (examined password before after bad) = before
before_of (migrated password before after bad) = before
before_of (looked before after) = before

abbrev pub after_of : Run → Outside
after_of (session password before after closing es) = after
after_of (quiet password before after) = after
after_of (examined password before after bad) = after
after_of (migrated password before after bad) = after
after_of (looked before after) = after

-- what was asked of the tree that is kept; what a look is told is none of it
abbrev pub exchanges_of : Run → List Exchange
exchanges_of (session password before after closing es) = es
exchanges_of (quiet password before after) = []
exchanges_of (examined password before after bad) = []
exchanges_of (migrated password before after bad) = []
exchanges_of (looked before after) = []

-- there was a violation in it, or its check was bad
abbrev pub condemns : Run → Bool
condemns (session password before after closing es) = violated es
condemns (quiet password before after) = false
condemns (examined password before after bad) = bad
condemns (migrated password before after bad) = bad
condemns (looked before after) = false

abbrev pub IsRun : Showing → Run → Type 0
IsRun shows (session password before after closing es) = IsSessionRun shows password before after (violated es) closing es
IsRun shows (quiet password before after) = IsQuietRun shows password before after
IsRun shows (examined password before after bad) = IsExaminedRun shows password before after bad
IsRun shows (migrated password before after bad) = IsMigrationRun shows password before after bad
IsRun shows (looked before after) = IsLookedRun before after

-- nothing that opens was forged from one moment to the other: under the password no configuration of this file system and key but this one, and no block's file
abbrev pub IsUnforged : List ℕ → Settings → Outside → Outside → Type 0
IsUnforged password c before after = IsUnforgedConfig password before.kept before.calls after.calls c × (forgeries c after ≤ forgeries c before)

-- no block's file was forged exactly where none of the new calls gave one that opens and was never put
pub none_forged : (c : Settings) (before after : Outside) → GoesOn before.calls after.calls → forgeries c after ≤ forgeries c before
    → NonePassSince (forged (opened_of c.key) c.block_size) before.calls after.calls
none_forged c before after = none_since_where_no_rise (forged (opened_of c.key) c.block_size) before.calls after.calls

pub none_forged_back : (c : Settings) (before after : Outside) → GoesOn before.calls after.calls → NonePassSince (forged (opened_of c.key) c.block_size) before.calls after.calls
    → forgeries c after ≡ forgeries c before
none_forged_back c before after = no_rise_where_none_since (forged (opened_of c.key) c.block_size) before.calls after.calls

-- nothing that opens was forged in the run; one of no lines asks for no block, a check takes none of what it loads, and what is kept takes nothing of a look
abbrev pub IsUnforgedRun : Settings → Run → Type 0
IsUnforgedRun c (session password before after closing es) = IsUnforged password c before after
IsUnforgedRun c (quiet password before after) = IsUnforgedConfig password before.kept before.calls after.calls c
IsUnforgedRun c (examined password before after bad) = IsUnforgedConfig password before.kept before.calls after.calls c
IsUnforgedRun c (migrated password before after bad) = IsUnforged password c before after
IsUnforgedRun c (looked before after) = Unit {0}

-- where the runs left all
abbrev pub end_of : Outside → List Run → Outside
end_of start [] = start
end_of start (run ∷ runs) = after_of run

-- nobody but the runs keeps a record or calls the directory as this client; what the directory does by itself is no call
pub record GoesOnFrom (last next : Outside) : Type 0 where
  pub kept : next.kept ≡ last.kept
  pub calls : next.calls ≡ last.calls

abbrev pub AreRuns : Showing → Settings → Outside → List Run → Type 0
AreRuns shows c start [] = Unit {0}
AreRuns shows c start (run ∷ runs) = IsRun shows run × IsUnforgedRun c run × GoesOnFrom (end_of start runs) (before_of run) × AreRuns shows c start runs

-- there was a violation in one of them, or one was a bad check
abbrev pub was_violated : List Run → Bool
was_violated [] = false
was_violated (run ∷ runs) = condemns run || was_violated runs

-- The answers are a session of the plain tree from the kept tree on. It leaves the tree of a kept point, or after a violation perhaps a marked record.
pub record Serves (shows : Showing) (c : Settings) (from : Tree) (before after : Outside) (es : List Exchange) (tree : Tree) : Type 0 where
  pub trees : List Tree
  pub replies : IsSession from es trees
  pub kept : ((violated es ≡ true) × IsKeptMarked records after.kept × (tree ≡ from)) ⊎ (IsKeptPoint from es trees tree × OutsideStandsFor shows c tree after)
  pub no_false_alarm : lies after ≤ lies before → AreCalm es
  pub built : AreBuilt es

-- The check leaves the tree, or after a bad one perhaps a marked record; and so do blocks that are written anew, after a violation.
pub record Examines (shows : Showing) (c : Settings) (from : Tree) (before after : Outside) (bad : Bool) (tree : Tree) : Type 0 where
  pub same : tree ≡ from
  pub kept : ((bad ≡ true) × IsKeptMarked records after.kept) ⊎ OutsideStandsFor shows c tree after
  pub no_false_alarm : lies after ≤ lies before → bad ≡ false

-- what a run does from a kept tree on, and the tree that it leaves
abbrev pub RunsFrom : Showing → Settings → Tree → Run → Tree → Type 0
RunsFrom shows c from (session password before after closing es) tree = Serves shows c from before after es tree
RunsFrom shows c from (quiet password before after) tree = (tree ≡ from) × OutsideStandsFor shows c tree after
RunsFrom shows c from (examined password before after bad) tree = Examines shows c from before after bad tree
RunsFrom shows c from (migrated password before after bad) tree = Examines shows c from before after bad tree
RunsFrom shows c from (looked before after) tree = (tree ≡ from) × OutsideStandsFor shows c tree after

-- a marked record was kept: nothing is answered, kept or called, and no check is bad
pub record IsRefusedRun (run : Run) : Type 0 where
  pub marked : IsKeptMarked records (before_of run).kept
  pub unanswered : exchanges_of run ≡ []
  pub uncondemned : condemns run ≡ false
  pub kept : (after_of run).kept ≡ (before_of run).kept
  pub calls : (after_of run).calls ≡ (before_of run).calls

-- a marked record was kept, and the run only looked: the mark stays
abbrev pub Looks : Run → Type 0
Looks (looked before after) = IsKeptMarked records before.kept × IsLookedRun before after
Looks run = ⊥

-- each run serves from the tree that the one before it left, or, where one before left a mark after a violation, is refused or only looks
abbrev pub Follow : Showing → Settings → Tree → List Run → List Tree → Type 0
Follow shows c first [] [] = Unit {0}
Follow shows c first (run ∷ runs) (tree ∷ trees) = (RunsFrom shows c (latest first trees) run tree ⊎ ((was_violated runs ≡ true) × (IsRefusedRun run ⊎ Looks run))) × Follow shows c first runs trees
Follow shows c first [] (tree ∷ trees) = ⊥
Follow shows c first (run ∷ runs) [] = ⊥

-- at last the last tree is kept, or after a violation a marked record
abbrev pub EndsWith : Showing → Settings → Tree → Outside → List Run → List Tree → Type 0
EndsWith shows c first start runs trees = OutsideStandsFor shows c (latest first trees) (end_of start runs) ⊎ ((was_violated runs ≡ true) × IsKeptMarked records (end_of start runs).kept)

-- Whatever the directory returned, lost or refused in any list of runs, the trees are there.
abbrev pub RunsCompose : Showing → Type 0
RunsCompose shows = (c : Settings) (first : Tree) (start : Outside) (runs : List Run) → OutsideStandsFor shows c first start → AreRuns shows c start runs
    → (trees : List Tree) × Follow shows c first runs trees × EndsWith shows c first start runs trees

-- the same from a file system that was made
abbrev pub RunsComposeFromCreate : Showing → Type 0
RunsComposeFromCreate shows = (c : Settings) (file : List ℕ) (kept : Option (List ℕ)) (id : BlockId) (start : Outside) (runs : List Run) → Created shows c file kept start.kept start.calls (Ok id) → AreRuns shows c start runs
    → (trees : List Tree) × Follow shows c empty_tree runs trees × EndsWith shows c empty_tree start runs trees

-- opening stopped at what it found for the configuration: nothing, a text that doesn't open, or another file system's
abbrev pub StopsAtConfig : OpenError → Type 0
StopsAtConfig (Mismatch kept found) = Unit {0}
StopsAtConfig NoConfig = Unit {0}
StopsAtConfig (OfConfig config_error.Form) = Unit {0}
StopsAtConfig (OfConfig config_error.Locked) = Unit {0}
StopsAtConfig (OfConfig config_error.Inner) = Unit {0}
StopsAtConfig error = ⊥

-- where it did, no configuration was forged, whatever the configuration is
abbrev pub RefusedIsUnforged : Type 0
RefusedIsUnforged = (password : List ℕ) (kept : Option (List ℕ)) (old new : Option (List Call)) (v0 v1 k0 k1 : ℕ) (error : OpenError) (c : Settings)
    → StopsAtConfig error → AttachCause password kept old new v0 v1 k0 k1 error → IsUnforgedConfig password kept old new c

-- ---- where nothing lies

-- under the password the file that is kept is this configuration, or it is locked
abbrev pub OpensOrLocks : List ℕ → Settings → Outside → Type 0
OpensOrLocks password c o = PasswordOpens password c o ⊎ ((file : List ℕ) × KeptConfigures records o.kept o.calls file × ConfigOf password file locked)

-- the directory gave what was last written, and the configuration in it was this one; of a look nothing is asked
pub record IsHonest (password : List ℕ) (c : Settings) (before after : Outside) : Type 0 where
  pub gave : lies after ≤ lies before
  pub opens : OpensOrLocks password c before

abbrev pub IsHonestRun : Settings → Run → Type 0
IsHonestRun c (session password before after closing es) = IsHonest password c before after
IsHonestRun c (quiet password before after) = IsHonest password c before after
IsHonestRun c (examined password before after bad) = IsHonest password c before after
IsHonestRun c (migrated password before after bad) = IsHonest password c before after
IsHonestRun c (looked before after) = Unit {0}

abbrev pub AreHonestRuns : Showing → Settings → Outside → List Run → Type 0
AreHonestRuns shows c start [] = Unit {0}
AreHonestRuns shows c start (run ∷ runs) = IsRun shows run × IsHonestRun c run × GoesOnFrom (end_of start runs) (before_of run) × AreHonestRuns shows c start runs

-- under the run's password no other configuration opens at all; a look asks for none of what is kept
abbrev pub OpensOnly : Settings → Run → Type 0
OpensOnly c (session password before after closing es) = IsOnlyConfig password before.kept before.calls after.calls c
OpensOnly c (quiet password before after) = IsOnlyConfig password before.kept before.calls after.calls c
OpensOnly c (examined password before after bad) = IsOnlyConfig password before.kept before.calls after.calls c
OpensOnly c (migrated password before after bad) = IsOnlyConfig password before.kept before.calls after.calls c
OpensOnly c (looked before after) = Unit {0}

-- so it is in an honest run
abbrev pub HonestRunOpensOnly : Type 0
HonestRunOpensOnly = (c : Settings) (run : Run) → IsHonestRun c run → OpensOnly c run

-- nothing that opens was forged in an honest run from a kept tree on
abbrev pub HonestRunIsUnforged : Showing → Type 0
HonestRunIsUnforged shows = (c : Settings) (tree : Tree) (run : Run) → IsRun shows run → OutsideStandsFor shows c tree (before_of run) → IsHonestRun c run → IsUnforgedRun c run

-- nor in any list of them, so they are runs that compose
abbrev pub HonestRunsCompose : Showing → Type 0
HonestRunsCompose shows = (c : Settings) (first : Tree) (start : Outside) (runs : List Run) → OutsideStandsFor shows c first start → AreHonestRuns shows c start runs → AreRuns shows c start runs

-- in an honest run from a kept tree on there is no violation, and no check is bad
abbrev pub HonestRunIsCalm : Showing → Type 0
HonestRunIsCalm shows = (c : Settings) (tree : Tree) (run : Run) → IsRun shows run → OutsideStandsFor shows c tree (before_of run) → IsHonestRun c run → condemns run ≡ false

-- nor is there in any list of them
abbrev pub HonestRunsAreCalm : Showing → Type 0
HonestRunsAreCalm shows = (c : Settings) (first : Tree) (start : Outside) (runs : List Run) → OutsideStandsFor shows c first start → AreHonestRuns shows c start runs → was_violated runs ≡ false
