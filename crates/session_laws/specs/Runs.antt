-- What a session did, over what is kept, the calls on the directory and the counts of faults alone.
use Rattle.std.specs.Prelude.{◌≡◌, ◌⊎◌, ◌≤◌, ℕ, ◌+◌, Bool, true, false, List, [], ◌∷◌, Result, is_some, IsOk, OnOk}
use Rattle.std.specs.declared.option.Option.{Option}
use Rattle.std.specs.declared.result.Result.TheVariants.{Ok, Err}
use Rattle.mount.specs.aes_gcm.Gcm.{opened_of}
use Rattle.run_frame.specs.answers.Sessions.{Exchange, IsSession, IsKeptPoint, RefusesAfterViolation, is_violation, is_refused, latest, violated, all_directory_faults, all_state_faults}
use Rattle.mount.specs.config_file.ConfigOf.{ConfigOf, opened}
use Rattle.mount.specs.config_file.Settings.{Settings}
use Rattle.mount.specs.config_file.declared.config.Opened.{Opened}
use Rattle.fs_model.specs.Tree.{Tree}
use Rattle.mount.specs.block_versions.Forgeries.{forged}
use Rattle.mount.specs.block_versions.Standing.{records}
use Rattle.outside.specs.Causes.{RoseBy}
use Rattle.outside.specs.Going.{GoesOn}
use Rattle.outside.specs.Honest.{is_lie, count_told}
use Rattle.outside.specs.Trace.{Call}
use Rattle.outside.specs.declared.keeper.Keeper.{Ghosts as KeeperGhosts}
use Rattle.scrypt_kdf.specs.Cost.{Cost}
use Rattle.mount.specs.record_saver.Saving.{KeptConfigures}
use Rattle.mount.specs.record_saver.declared.saver.SyncError.{SyncError}
use Rattle.mount.specs.record_saver.declared.saver.SyncError.TheVariants.{Memory, FaultDirectory, FaultState}
use Rattle.mount.specs.mount_core.Showing.{Showing}
use Rattle.mount.specs.mount_core.Standing.{IsKeptMarked}
use Rattle.mount.specs.Formats.{TakesFrom, TakesSame}
use Rattle.mount.specs.Mounts.{Attached}
use Rattle.mount.specs.Representing.{Represents}
use Rattle.run_frame.specs.mount_stores.Identities.{HasEmptyList}
use Rattle.run_frame.specs.mount_stores.Unforged.{IsOnlyConfig, IsUnforgedConfig}
use Rattle.session_laws.specs.Causes.{AreAnswered, AreBuilt, VersionsSince, SpentSince}
use Rattle.session_laws.specs.Resting.{AreIdle, OnlyGot, OnlyAsked}

-- at one moment: what is kept, the calls on the directory where they are told, the newest first, and both counts of faults
pub record Outside : Type 0 where
  pub kept : Option (List ℕ)
  pub calls : Option (List Call)
  pub vault_faults : ℕ
  pub keeper_faults : ℕ

abbrev pub outside_of : {V : Type 0} → {K : Type 0} → (V → Option (List Call)) → (V → ℕ) → KeeperGhosts K → V → K → Outside
outside_of trace faults G vault keeper = record { kept = G.kept keeper; calls = trace vault; vault_faults = faults vault; keeper_faults = G.faults keeper }

-- under this configuration they stand for this tree
abbrev pub OutsideStandsFor : Showing → Settings → Tree → Outside → Type 0
OutsideStandsFor shows c tree o = Represents shows o.kept o.calls c tree

-- the configuration's file opens to this configuration under the password
abbrev pub PasswordOpens : List ℕ → Settings → Outside → Type 0
PasswordOpens password c o = (file : List ℕ) × (cost : Cost) × KeptConfigures records o.kept o.calls file × ConfigOf password file (opened c cost)

-- how many block files were given that this client never put, and how often something else was given than what was last written
abbrev pub forgeries : Settings → Outside → ℕ
forgeries c o = count_told (forged (opened_of c.key) c.block_size) o.calls

abbrev pub lies : Outside → ℕ
lies o = count_told is_lie o.calls

-- what opening must find: under this configuration they stood for the tree, and no other one of its file system and key opens under the password
pub record OpensTo (shows : Showing) (password : List ℕ) (c : Settings) (tree : Tree) (before after : Outside) : Type 0 where
  pub stands : OutsideStandsFor shows c tree before
  pub unforged_config : IsUnforgedConfig password before.kept before.calls after.calls c

-- the same where no other configuration opens at all
pub record OpensOnlyTo (shows : Showing) (password : List ℕ) (c : Settings) (tree : Tree) (before after : Outside) : Type 0 where
  pub stands : OutsideStandsFor shows c tree before
  pub only : IsOnlyConfig password before.kept before.calls after.calls c

-- what a session must find besides: no block file that opens was forged since
pub record IsFounded (shows : Showing) (password : List ℕ) (c : Settings) (first : Tree) (before after : Outside) : Type 0 where
  pub opens : OpensTo shows password c first before after
  pub unforged : forgeries c after ≤ forgeries c before

-- no answer is a violation or refused
abbrev pub AreCalm : List Exchange → Type 0
AreCalm [] = Unit {0}
AreCalm (e ∷ es) = (is_violation e.answer ≡ false) × (is_refused e.answer ≡ false) × AreCalm es

-- The answers are the plain tree's, and what is kept stands for the tree of a kept point. The newest exchange and tree stand first.
pub record Answers (shows : Showing) (c : Settings) (first : Tree) (before after : Outside) (closing : Result Unit SyncError) (es : List Exchange) : Type 0 where
  pub trees : List Tree
  pub replies : IsSession first es trees
  -- a marked record is kept only after a violation
  pub kept : ((violated es ≡ true) × IsKeptMarked records after.kept) ⊎ ((tree : Tree) × IsKeptPoint first es trees tree × OutsideStandsFor shows c tree after)
  pub no_false_alarm : lies after ≤ lies before → AreCalm es
  pub built : AreBuilt es
  -- without a violation, a session that closed leaves its last tree
  pub done : violated es ≡ false → OnOk closing (OutsideStandsFor shows c (latest first trees) after)

-- the faults that closing names
abbrev pub directory_fault : Result Unit SyncError → ℕ
directory_fault (Ok _) = 0
directory_fault (Err Memory) = 0
directory_fault (Err FaultDirectory) = 1
directory_fault (Err FaultState) = 0

abbrev pub state_fault : Result Unit SyncError → ℕ
state_fault (Ok _) = 0
state_fault (Err Memory) = 0
state_fault (Err FaultDirectory) = 0
state_fault (Err FaultState) = 1

-- opening took the record that was kept and the configuration that opened under the password, left this kept and made these calls, and the session went on from there
pub record WasAttached (password : List ℕ) (before after : Outside) : Type 0 where
  pub opened : Opened
  pub kept : Option (List ℕ)
  pub calls : Option (List Call)
  pub attached : Attached password before.kept kept before.calls calls opened
  pub goes_on : GoesOn calls after.calls

-- A session from its opening to its end, with its exchanges: whatever the directory gave, and for each configuration and first tree that it is founded on.
pub record IsSessionRun (shows : Showing) (password : List ℕ) (before after : Outside) (stood : Bool) (closing : Result Unit SyncError) (es : List Exchange) : Type 0 where
  pub attached : WasAttached password before after
  pub refuses : RefusesAfterViolation es
  -- where no line came to a change, nor to a violation, what opening left is kept, and since then the directory was only asked for blocks
  pub rests : AreIdle es → IsOk closing × (after.kept ≡ attached.kept) × OnlyGot attached.calls after.calls
  -- each answer is one to what was asked
  pub answered : AreAnswered es
  pub spent : SpentSince before.kept es
  -- whether a violation stood at the end
  pub violation : stood ≡ violated es
  -- after a violation nothing is done to close
  pub closed : violated es ≡ true → IsOk closing
  pub refusal : violated es ≡ true → IsKeptMarked records after.kept ⊎ RoseBy (all_state_faults es + 1) before.keeper_faults after.keeper_faults
  pub directory_faults_happened : RoseBy (all_directory_faults es + directory_fault closing) before.vault_faults after.vault_faults
  pub state_faults_happened : RoseBy (all_state_faults es + state_fault closing) before.keeper_faults after.keeper_faults
  -- where none is named, none happened; after a violation the mark's save may fail and isn't named
  pub directory_quiet : all_directory_faults es + directory_fault closing ≡ 0 → after.vault_faults ≡ before.vault_faults
  pub state_quiet : violated es ≡ false → all_state_faults es + state_fault closing ≡ 0 → after.keeper_faults ≡ before.keeper_faults
  pub emptied : violated es ≡ false → OnOk closing (HasEmptyList after.kept)
  -- however it was closed, a mark is kept only after a violation, and no block's version is higher in the record by more than one for each line
  pub versions : ((violated es ≡ true) × IsKeptMarked records after.kept) ⊎ VersionsSince before.kept after.kept es
  -- the formats of block files that are taken stay
  pub least : TakesSame before.kept after.kept
  -- the configuration's file stays
  pub configures : (file : List ℕ) → is_some before.calls ≡ true → KeptConfigures records before.kept before.calls file → KeptConfigures records after.kept after.calls file
  -- and each password that opened it still does
  pub opens : (other : List ℕ) (c : Settings) → is_some before.calls ≡ true → PasswordOpens other c before → PasswordOpens other c after
  pub founded : (c : Settings) (first : Tree) → IsFounded shows password c first before after → Answers shows c first before after closing es
  -- a directory that gives what was last written gives no forgery
  pub unforged : (c : Settings) (first : Tree) → OpensTo shows password c first before after → lies after ≤ lies before → forgeries c after ≤ forgeries c before

-- a run of no lines: it leaves what was kept, and a marked record with all that was called
pub record IsQuietRun (shows : Showing) (password : List ℕ) (before after : Outside) : Type 0 where
  pub stands : (c : Settings) (tree : Tree) → OpensTo shows password c tree before after → OutsideStandsFor shows c tree after
  pub marked : IsKeptMarked records before.kept → (after.kept ≡ before.kept) × (after.calls ≡ before.calls)
  pub least : TakesSame before.kept after.kept

-- A run that only looked, whatever the directory gave: it took nothing of what is kept, left it as it was, and only asked for files.
pub record IsLookedRun (before after : Outside) : Type 0 where
  pub kept : after.kept ≡ before.kept
  pub asked : OnlyAsked before.calls after.calls

-- A run of a check that was bad or not: it leaves what was kept, and after a bad one perhaps a marked record.
pub record IsExaminedRun (shows : Showing) (password : List ℕ) (before after : Outside) (bad : Bool) : Type 0 where
  pub stands : (c : Settings) (tree : Tree) → OpensTo shows password c tree before after → bad ≡ false → OutsideStandsFor shows c tree after
  pub condemned : (c : Settings) (tree : Tree) → OpensTo shows password c tree before after → bad ≡ true → IsKeptMarked records after.kept ⊎ OutsideStandsFor shows c tree after
  pub calm : (c : Settings) (tree : Tree) → OpensTo shows password c tree before after → lies after ≤ lies before → bad ≡ false
  pub marked : IsKeptMarked records before.kept → (bad ≡ false) × (after.kept ≡ before.kept) × (after.calls ≡ before.calls)
  pub least : TakesSame before.kept after.kept

-- A run that writes the blocks anew, and met a violation or didn't: the tree that was kept stays, and after a violation perhaps a marked record is kept.
pub record IsMigrationRun (shows : Showing) (password : List ℕ) (before after : Outside) (bad : Bool) : Type 0 where
  pub stands : (c : Settings) (tree : Tree) → IsFounded shows password c tree before after → bad ≡ false → OutsideStandsFor shows c tree after
  pub condemned : (c : Settings) (tree : Tree) → IsFounded shows password c tree before after → bad ≡ true → IsKeptMarked records after.kept ⊎ OutsideStandsFor shows c tree after
  pub calm : (c : Settings) (tree : Tree) → OpensTo shows password c tree before after → lies after ≤ lies before → bad ≡ false
  -- a directory that gives what was last written gives no forgery
  pub unforged : (c : Settings) (tree : Tree) → OpensTo shows password c tree before after → lies after ≤ lies before → forgeries c after ≤ forgeries c before
  pub marked : IsKeptMarked records before.kept → (bad ≡ false) × (after.kept ≡ before.kept) × (after.calls ≡ before.calls)
  -- where the newest format alone was taken, so it is
  pub least : TakesFrom 2 before.kept → TakesFrom 2 after.kept
