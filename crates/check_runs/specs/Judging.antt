-- What a check finds, by the calls on the directory.
use Rattle.std.specs.Prelude.{◌≡◌, ◌≤◌, ◌-◌, ℕ, Bool, true, false, List, [], Result, Ok, Err, IfOk, IfErr}
use Rattle.std.specs.declared.option.Option.{Option}
use Rattle.block_id.specs.declared.fail.Fail.{Fail}
use Rattle.block_id.specs.declared.fail.Fail.TheVariants.{Memory, Fault, Violation}
use Rattle.check_walk.specs.Given.{Given}
use Rattle.check_refused.specs.check_rules.Certificates.{Owners, Certifies}
use Rattle.setup_runs.specs.config_file.Settings.{Settings}
use Rattle.setup_runs.specs.aes_gcm.Gcm.{opened_of}
use Rattle.check_refused.specs.cryfs_check.Checks.{OnYes, OnNo, AsksOnce, IsRefuted}
use Rattle.check_refused.specs.cryfs_check.declared.checking.Checked.{Checked}
use Rattle.check_refused.specs.cryfs_check.declared.checking.Checked.TheVariants.{Yes, No}
use Rattle.fs_model.specs.Tree.{Tree}
use Rattle.check_runs.specs.Reads.{GivesReads}
use Rattle.block_versions.specs.Held.{Held}
use Rattle.block_versions.specs.Loads.{loads_by}
use Rattle.block_versions.specs.Reads.{FoundSince, GaveWrong}
use Rattle.block_versions.specs.local_state.Known.{live_ids}
use Rattle.block_versions.specs.local_state.Record.{PlainState}
use Rattle.setup_runs.specs.mount.Answering.{store_of, forgeries_of, lies_of, vault_faults}
use Rattle.setup_runs.specs.mount.Mounts.{IsReady}
use Rattle.setup_runs.specs.mount.declared.mount.Mount.{Mount}
use Rattle.setup_runs.specs.mount.Tower.{TowerStands}
use Rattle.check_blocks.specs.Examined.{OnlyExamined, held_of, trace_of}
use Rattle.check_blocks.specs.declared.examined.Examined.{Examined}
use Rattle.setup_runs.specs.mount_calls.Condemning.{Condemns}
use Rattle.setup_runs.specs.mount_stores.Tower.{tower_holdings, tower_meanings}
use Rattle.check_walk.specs.store_outcome.Meanings.{IsNoticed, IsOfBlocks, HasCause, IsQuiet, OnVerdict}
use Rattle.outside.specs.Trace.{Call}
use Rattle.outside.specs.declared.keeper.Keeper.{Ghosts as KeeperGhosts}
use Rattle.block_versions.specs.store_api.Content.{Id}
use Rattle.block_versions.specs.store_api.Holdings.{Stays}
use Rattle.block_versions.specs.store_api.Loads.{LoadAnswer}
use Rattle.setup_runs.specs.mount_core.Showing.{ShowsFiles}

-- a flaw or a violation was found
abbrev pub is_bad : Result Checked Fail → Bool
is_bad (Ok (Yes owners)) = false
is_bad (Ok (No flaw)) = true
is_bad (Err Memory) = false
is_bad (Err Fault) = false
is_bad (Err (Violation why)) = true

-- what a store of this configuration holds by this state, where nothing waits to be written
abbrev pub held_for : Settings → PlainState → Held
held_for c state = record { size = c.block_size; opens = opened_of c.key; state = state; list = [] }

-- what one load makes of the calls, where this is held
abbrev pub read_by : Held → Option (List Call) → Option (List Call) → Id → LoadAnswer → Type 0
read_by h = loads_by (λ calls. h) (λ calls. calls)

-- Each live block's file was got once and nothing else was called. They opened to payloads that show a tree from this root on, in which these own the blocks.
pub record IsProven (h : Held) (root : Id) (old new : Option (List Call)) (list : Owners) : Type 0 where
  pub given : Given
  pub reads : GivesReads h old given new
  pub certifies : Certifies (h.size - 78) root (live_ids h.state.lives) given list

-- What a check answers of what is held, and on what ground: blocks were loaded, live ones alone and each once at most.
pub record IsJudged (h : Held) (root : Id) (old new : Option (List Call)) (verdict : Result Checked Fail) : Type 0 where
  pub asked : AsksOnce (read_by h) (live_ids h.state.lives) old new
  pub yes : IfOk verdict (λ found. OnYes found (IsProven h root old new))
  pub no : IfOk verdict (λ found. OnNo found (IsRefuted (read_by h) (h.size - 78) root (live_ids h.state.lives) old new))
  -- what is said of one block is so, and the structure is never named
  pub violation : IfErr verdict (λ fail. OnVerdict fail (FoundSince h old new))
  pub of_blocks : IfErr verdict IsOfBlocks
  -- and no wrong file that came is passed over
  pub noticed : IsNoticed verdict (GaveWrong h old new)

-- ---- of a mount

-- what judging leaves of a mount, whose blocks were only loaded
pub record Judges {V : Type 0} {K : Type 0} (trace : V → Option (List Call)) (faults : V → ℕ) (G : KeeperGhosts K) (old new : Examined V K) (verdict : Result Checked Fail) : Type 0 where
  pub ready : IsReady trace faults G new.mount
  pub only : OnlyExamined trace faults old.mount new.mount
  pub stays : Stays (tower_holdings trace) (store_of old.mount) (store_of new.mount)
  pub sound : (tower_meanings trace faults).sound (store_of old.mount) → forgeries_of trace faults new.mount ≤ forgeries_of trace faults old.mount → (tower_meanings trace faults).sound (store_of new.mount)
  pub fault : IfErr verdict (λ fail. HasCause fail (vault_faults trace faults old.mount) (vault_faults trace faults new.mount))
  pub quiet : IsQuiet verdict (vault_faults trace faults old.mount) (vault_faults trace faults new.mount)
  pub judged : (held_of old).list ≡ [] → IsJudged (held_of old) old.mount.core.root.0 (trace_of trace old) (trace_of trace new) verdict
  -- where it stands for a tree and each file was what was last written, nothing bad was found
  pub calm : (kept now : Tree) → TowerStands ShowsFiles trace faults G old.mount.core kept now → lies_of trace faults new.mount ≤ lies_of trace faults old.mount → is_bad verdict ≡ false

-- the mount was condemned, or left
abbrev pub Settles : {V : Type 0} → {K : Type 0} → (V → Option (List Call)) → (V → ℕ) → KeeperGhosts K → Bool → Mount V K → Mount V K → Type 0
Settles trace faults G true old new = Condemns trace faults G old new
Settles trace faults G false old new = new ≡ old
