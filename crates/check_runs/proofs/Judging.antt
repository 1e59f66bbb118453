-- What judging finds, by what the check of its blocks says.
use Rattle.std.proofs.Common.{◌≡◌, ◌≤◌, ◌-◌, ℕ, false, List, [], refl, sym, subst}
use Rattle.std.specs.Prelude.{Result, Ok, Err, IfOk, IfErr}
use Rattle.std.specs.declared.option.Option.{Option}
use Rattle.block_id.specs.declared.fail.Fail.{Fail}
use Rattle.block_id.specs.declared.fail.Fail.TheVariants.{Memory, Fault, Violation}
use Rattle.check_walk.specs.declared.flaw.Flaw.{Flaw}
use Rattle.check_refused.specs.check_rules.Certificates.{Owners}
use Rattle.check_refused.specs.cryfs_check.Checks.{ShowsSome, IsYes, OnYes, OnNo, AsksOnce, IsCertified, IsRefuted}
use Rattle.check_refused.specs.cryfs_check.declared.checking.Checked.{Checked}
use Rattle.check_refused.specs.cryfs_check.declared.checking.Checked.TheVariants.{Yes, No}
use Rattle.fs_model.specs.Tree.{Tree}
use Rattle.block_versions.specs.Loads.{loads_by}
use Rattle.block_versions.specs.local_state.Known.{live_ids}
use Rattle.setup_runs.specs.mount.Answering.{store_of, lies_of}
use Rattle.setup_runs.specs.mount.Mounts.{IsReady}
use Rattle.setup_runs.specs.mount.Tower.{TowerStands}
use Rattle.check_blocks.specs.Examined.{held_of, trace_of, examined_meanings, examined_holdings}
use Rattle.check_blocks.specs.ExaminedLaws.{beside_none, examined_lawful}
use Rattle.check_blocks.specs.declared.examined.Examined.{Examined}
use Rattle.setup_runs.proofs.mount_core_lemmas.Moving.{stays_same}
use Rattle.setup_runs.specs.mount_stores.Tower.{tower_holdings}
use Rattle.setup_runs.specs.mount_stores.TowerLaws.{tower_lawful}
use Rattle.check_walk.specs.store_outcome.Meanings.{Lawful, Meanings, IsOfBlocks}
use Rattle.check_walk.specs.store_outcome.Outcome.{Outcome, alarm}
use Rattle.outside.specs.Trace.{Call}
use Rattle.outside.specs.declared.keeper.Keeper.{Ghosts as KeeperGhosts}
use Rattle.block_versions.specs.store_api.Content.{Id}
use Rattle.block_versions.specs.store_api.Holdings.{Stays}
use Rattle.setup_runs.specs.mount_core.Showing.{ShowsFiles}
use Rattle.check_runs.specs.Judging.{is_bad, read_by, IsJudged, Judges}
use Rattle.check_runs.proofs.Reading.{asked_once, refuted, proven}

on_yes : (verdict : Result Checked Fail) (P Q : Owners → Type 0) → ((list : Owners) → P list → Q list) → IfOk verdict (λ found. OnYes found P) → IfOk verdict (λ found. OnYes found Q)
on_yes (Ok (Yes owners)) P Q f h = f owners h
on_yes (Ok (No flaw)) P Q f h = tt
on_yes (Err fail) P Q f h = tt

on_no : (verdict : Result Checked Fail) (P Q : Flaw → Type 0) → ((flaw : Flaw) → P flaw → Q flaw) → IfOk verdict (λ found. OnNo found P) → IfOk verdict (λ found. OnNo found Q)
on_no (Ok (Yes owners)) P Q f h = tt
on_no (Ok (No flaw)) P Q f h = f flaw h
on_no (Err fail) P Q f h = tt

-- over an honest directory, what shows a tree is found so
fine : {S : Type 0} {M : Meanings S} (laws : Lawful M) {N : Type 0} (a b : S) (verdict : Result Checked Fail) → Outcome M N a b verdict (λ n found. IsYes found) → N → M.sound a → M.lies b ≤ M.lies a → is_bad verdict ≡ false
fine laws a b (Ok (Yes owners)) o n s honest = refl
fine laws a b (Ok (No flaw)) o n s honest = absurd (o.value n s (laws.honest_unforged a b o.loaded s honest))
fine laws a b (Err Memory) o n s honest = refl
fine laws a b (Err Fault) o n s honest = refl
fine laws a b (Err (Violation why)) o n s honest = absurd (alarm laws o n s honest)

module _ {V : Type 0} {K : Type 0} (trace : V → Option (List Call)) (faults : V → ℕ) (G : KeeperGhosts K) where
  -- nothing was loaded, for want of memory
  pub judged_none : (e : Examined V K) → IsReady trace faults G e.mount → Judges trace faults G e e (Err Memory)
  judged_none e ready = record {
    ready = ready;
    only = record { loaded = (tower_lawful trace faults).same (store_of e.mount); beside = beside_none e.mount };
    stays = stays_same (tower_holdings trace) (store_of e.mount) (store_of e.mount) refl;
    sound = λ s unforged. s;
    fault = tt;
    quiet = refl;
    judged = λ empty. record {
      asked = record { asked = []; by = refl; once = tt; lives = λ id has. absurd (cc) };
      yes = tt;
      no = tt;
      violation = tt;
      of_blocks = tt;
      noticed = (tower_lawful trace faults).gave_same (store_of e.mount);
    };
    calm = λ kept now s honest. refl;
  }

  -- the blocks were checked
  module _ (a b : Examined V K) (verdict : Result Checked Fail) (live : List Id) (root : Id) (all : live ≡ live_ids (held_of a).state.lives) (is_root : root ≡ a.mount.core.root.0)
      (o : Outcome (examined_meanings trace faults G) (ShowsSome ((held_of a).size - 78) root ((examined_holdings trace).content a)) a b verdict (λ n found. IsYes found))
      (stays : Stays (examined_holdings trace) a b) (blocks : IfErr verdict IsOfBlocks)
      (asked : AsksOnce (loads_by held_of (trace_of trace)) live a b)
      (yes : IfOk verdict (λ found. OnYes found (IsCertified (loads_by held_of (trace_of trace)) ((held_of a).size - 78) root live a b)))
      (no : IfOk verdict (λ found. OnNo found (IsRefuted (loads_by held_of (trace_of trace)) ((held_of a).size - 78) root live a b))) where
    abbrev By : Type 0
    By = IsJudged (held_of a) root (trace_of trace a) (trace_of trace b) verdict

    judged : (held_of a).list ≡ [] → By
    judged empty = record {
      asked = subst (λ (ids : List Id). AsksOnce (read_by (held_of a)) ids (trace_of trace a) (trace_of trace b)) all (asked_once held_of (trace_of trace) live a b asked);
      yes = on_yes verdict _ _ (λ list c. proven held_of (trace_of trace) root a b list empty
          (subst (λ (ids : List Id). IsCertified (loads_by held_of (trace_of trace)) ((held_of a).size - 78) root ids a b list) all c)) yes;
      no = on_no verdict _ _ (λ flaw r. subst (λ (ids : List Id). IsRefuted (read_by (held_of a)) ((held_of a).size - 78) root ids (trace_of trace a) (trace_of trace b) flaw) all
          (refuted held_of (trace_of trace) ((held_of a).size - 78) root live a b flaw r)) no;
      violation = o.met;
      of_blocks = blocks;
      noticed = o.noticed;
    }

    calm : (kept now : Tree) → TowerStands ShowsFiles trace faults G a.mount.core kept now → lies_of trace faults b.mount ≤ lies_of trace faults a.mount → is_bad verdict ≡ false
    calm kept now s honest =
        let shown = subst (λ (id : Id). ShowsFiles ((held_of a).size - 78) id ((examined_holdings trace).content a) now) (sym is_root) s.shown in
        fine (examined_lawful trace faults G) a b verdict o (record { map = shown.map; stores = shown.stores; tree = now; shows = shown.shows }) s.sound honest

    pub judged_all : Judges trace faults G a b verdict
    judged_all = record {
      ready = o.intact;
      only = o.loaded;
      stays = record { ids = stays.ids; content = stays.content; told = stays.told; used = stays.used; spent = stays.spent; version = stays.version; payload = stays.payload };
      sound = o.sound;
      fault = o.fault;
      quiet = o.quiet;
      judged = λ empty. subst (λ (id : Id). IsJudged (held_of a) id (trace_of trace a) (trace_of trace b) verdict) is_root (judged empty);
      calm = calm;
    }
