-- A run of a check, from how it began, what was judged and how it was closed.
use Rattle.std.proofs.Common.{◌≡◌, ◌⊎◌, ◌≤◌, ◌∙◌, ℕ, Bool, true, false, List, [], ◌∷◌, sym, ap, subst, inl, inr, arith}
use Rattle.std.specs.Prelude.{is_some, IfErr, IsOk}
use Rattle.std.specs.declared.option.Option.{Option}
use Rattle.setup_runs.specs.config_file.Settings.{Settings, settings_of}
use Rattle.fs_model.specs.Tree.{Tree}
use Rattle.block_versions.specs.Standing.{records}
use Rattle.setup_runs.proofs.mount_lemmas.Formats.{equal_same, loaded_same}
use Rattle.setup_runs.specs.mount.Answering.{store_of, calls_of, vault_faults, keeper_faults, kept_of}
use Rattle.setup_runs.specs.mount.declared.mount.Mount.{Mount}
use Rattle.setup_runs.specs.mount.Formats.{TakesSame}
use Rattle.setup_runs.specs.mount.Mounts.{IsReady}
use Rattle.setup_runs.specs.mount.Tower.{TowerConfigures}
use Rattle.setup_runs.proofs.mount_answering_lemmas.Lines.{marked_or}
use Rattle.check_blocks.specs.Examined.{OnlyExamined}
use Rattle.setup_runs.specs.mount_core.Standing.{IsKeptMarked}
use Rattle.setup_runs.specs.mount_stores.Tower.{Cached, held_in, vault_in, trace_in}
use Rattle.check_walk.specs.store_outcome.Meanings.{HasCause, IsQuiet}
use Rattle.outside.specs.Causes.{RoseBy}
use Rattle.outside.specs.Trace.{Call}
use Rattle.outside.specs.declared.keeper.Keeper.{Ghosts as KeeperGhosts}
use Rattle.setup_runs.proofs.session_laws_lemmas.Still.{went_got}
use Rattle.setup_runs.proofs.session_laws_lemmas.Whole.{only_one}
use Rattle.setup_runs.specs.session_laws.Openings.{StayOpen}
use Rattle.setup_runs.specs.session_laws.Resting.{OnlyGot}
use Rattle.setup_runs.specs.session_laws.Runs.{Outside, outside_of, OutsideStandsFor, lies, OpensTo, IsExaminedRun}
use Rattle.setup_runs.specs.session_laws.Turns.{Begun}
use Rattle.setup_runs.specs.record_saver.Saving.{KeptConfigures}
use Rattle.setup_runs.specs.record_saver.declared.saver.Saver.{Saver}
use Rattle.block_versions.specs.store_api.declared.tx.Tx.{Tx}
use Rattle.setup_runs.specs.mount_core.Showing.{ShowsFiles}
use Rattle.check_runs.specs.declared.examining.Examination.{Examination}
use Rattle.check_runs.specs.Judging.{is_bad, held_for, IsJudged, Settles}
use Rattle.check_runs.specs.Examining.{Examines, LeavesExamined, IsExamined}
use Rattle.check_runs.proofs.Opened.{called_for, is_opened, stood, represents_last, fewer_lies, config_left}

true_is_false : true ≡ false → ⊥
true_is_false e = cc

-- ---- a mount that was condemned, or left

module _ {V : Type 0} {K : Type 0} (trace : V → Option (List Call)) (faults : V → ℕ) (G : KeeperGhosts K) (mid set : Mount V K) where
  same_store : (bad : Bool) → Settles trace faults G bad mid set → store_of set ≡ store_of mid
  same_store true s = ap (λ (t : Tx (Cached V)). t.store) s.blobs
  same_store false s = ap (λ (m : Mount V K). store_of m) s

  idle : (bad : Bool) → Settles trace faults G bad mid set → mid.core.saver.changed ≡ false → (set.core.violated ≡ true) ⊎ (set.core.saver.changed ≡ false)
  idle true s unchanged = inl s.violated
  idle false s unchanged = inr (ap (λ (m : Mount V K). m.core.saver.changed) s ∙ unchanged)

  unsaved : (bad : Bool) → Settles trace faults G bad mid set → bad ≡ false → (kept_of G set ≡ kept_of G mid) × (keeper_faults G set ≡ keeper_faults G mid)
  unsaved true s fine = absurd (true_is_false fine)
  unsaved false s fine = (ap (λ (m : Mount V K). kept_of G m) s, ap (λ (m : Mount V K). keeper_faults G m) s)

  condemned : (bad : Bool) → Settles trace faults G bad mid set → bad ≡ true → IsKeptMarked records (kept_of G set) ⊎ RoseBy 1 (keeper_faults G mid) (keeper_faults G set)
  condemned true s bad = s.marked
  condemned false s bad = absurd (true_is_false (sym bad))

  grows : (bad : Bool) → Settles trace faults G bad mid set → keeper_faults G mid ≤ keeper_faults G set
  grows true s = s.keeper_grows
  grows false s = let e = ap (λ (m : Mount V K). keeper_faults G m) s in omega (arith, e)

  -- what is kept is marked, or what it was
  marked : (bad : Bool) → Settles trace faults G bad mid set → IsReady trace faults G mid → IsKeptMarked records (kept_of G set) ⊎ (kept_of G set ≡ kept_of G mid)
  marked true s ready = marked_or records mid.core.saver (kept_of G set) ready.core.can_mark s.kept
  marked false s ready = inr (ap (λ (m : Mount V K). kept_of G m) s)

  configures : (bad : Bool) → Settles trace faults G bad mid set → (file : List ℕ) → TowerConfigures trace G mid.core (file ∷ []) file → KeptConfigures records (kept_of G set) (calls_of trace set) file
  configures true s file c = only_one (kept_of G set) (calls_of trace set) file (s.configures (file ∷ []) file c)
  configures false s file c = subst (λ (m : Mount V K). KeptConfigures records (kept_of G m) (calls_of trace m) file) (sym s) (only_one (kept_of G mid) (calls_of trace mid) file c.kept)

-- ---- a run

module _ {V : Type 0} {K : Type 0} (trace : V → Option (List Call)) (faults : V → ℕ) (G : KeeperGhosts K) (password : List ℕ) (vault : V) (keeper : K) (first : Mount V K) (x : Examination V K)
    (b : Begun ShowsFiles trace faults G password vault keeper first) (unmarked : ¬ IsKeptMarked records (G.kept keeper)) (e : Examines trace faults G first x) where
  abbrev Before : Outside
  Before = outside_of trace faults G vault keeper

  abbrev After : Outside
  After = outside_of trace faults G x.vault x.keeper

  abbrev mid : Mount V K
  mid = e.judged.mount

  abbrev set : Mount V K
  set = e.settled

  abbrev bad : Bool
  bad = is_bad x.verdict

  only : OnlyExamined trace faults first mid
  only = e.judges.only

  closed : IsOk x.closing × (x.vault ≡ vault_in (store_of set)) × (x.keeper ≡ set.core.saver.keeper)
  closed = e.closed.closes.left (idle trace faults G mid set bad e.settles (ap (λ (s : Saver K). s.changed) only.beside.saver ∙ b.opened.unchanged))

  last_vault : x.vault ≡ vault_in (store_of mid)
  last_vault = closed.1 ∙ ap (λ (s : Cached V). vault_in s) (same_store trace faults G mid set bad e.settles)

  last_calls : trace x.vault ≡ calls_of trace mid
  last_calls = ap trace last_vault

  last_kept : G.kept x.keeper ≡ kept_of G set
  last_kept = ap G.kept closed.2

  last_failed : G.faults x.keeper ≡ keeper_faults G set
  last_failed = ap G.faults closed.2

  mid_kept : kept_of G mid ≡ kept_of G first
  mid_kept = ap (λ (s : Saver K). G.kept s.keeper) only.beside.saver

  mid_failed : keeper_faults G mid ≡ G.faults keeper
  mid_failed = ap (λ (s : Saver K). G.faults s.keeper) only.beside.saver ∙ b.calls.keeper_quiet

  got : OnlyGot (calls_of trace first) (trace x.vault)
  got = subst (λ (t : Option (List Call)). OnlyGot (calls_of trace first) t) (sym last_calls)
      (went_got (held_in (store_of first)) (calls_of trace first) (calls_of trace mid) only.loaded.trace)

  unsaved_after : bad ≡ false → (G.kept x.keeper ≡ kept_of G first) × (G.faults x.keeper ≡ G.faults keeper)
  unsaved_after fine =
      let u = unsaved trace faults G mid set bad e.settles fine in
      (last_kept ∙ (u.0 ∙ mid_kept), last_failed ∙ (u.1 ∙ mid_failed))

  condemned_after : bad ≡ true → IsKeptMarked records (G.kept x.keeper) ⊎ RoseBy 1 (G.faults keeper) (G.faults x.keeper)
  condemned_after is = elim (condemned trace faults G mid set bad e.settles is) [
    | inl m ↦ inl (subst (λ (k : Option (List ℕ)). IsKeptMarked records k) (sym last_kept) m)
    | inr r ↦ inr (omega (arith, r, mid_failed, last_failed))
  ]

  leaves : LeavesExamined trace faults G vault keeper (kept_of G first) (calls_of trace first) x
  leaves = record {
    closed = closed.0;
    only_got = got;
    vault_grows = let g = only.loaded.faults in let l = ap faults last_vault in let q = b.calls.vault_quiet in omega (arith, g, l, q);
    vault_cause = subst (λ (n : ℕ). IfErr x.verdict (λ fail. HasCause fail n (faults x.vault))) b.calls.vault_quiet
        (subst (λ (v : V). IfErr x.verdict (λ fail. HasCause fail (vault_faults trace faults first) (faults v))) (sym last_vault) e.judges.fault);
    vault_quiet = subst (λ (n : ℕ). IsQuiet x.verdict n (faults x.vault)) b.calls.vault_quiet
        (subst (λ (v : V). IsQuiet x.verdict (vault_faults trace faults first) (faults v)) (sym last_vault) e.judges.quiet);
    condemned = condemned_after;
    unsaved = unsaved_after;
    keeper_grows = let g = grows trace faults G mid set bad e.settles in omega (arith, g, mid_failed, last_failed);
  }

  -- ---- what was judged is what the record calls for

  judged_is : IsJudged (held_for (settings_of first.opened.config) b.attached.state) (settings_of first.opened.config).root (calls_of trace first) (trace x.vault) x.verdict
  judged_is =
      subst (λ (t : Option (List Call)). IsJudged (held_for (settings_of first.opened.config) b.attached.state) (settings_of first.opened.config).root (calls_of trace first) t x.verdict) (sym last_calls)
      (called_for trace faults G password vault keeper first b (λ h r. IsJudged h r (calls_of trace first) (calls_of trace mid) x.verdict) (e.judges.judged (b.opened.ready.core.whole.none b.opened.unchanged)))

  -- ---- the configuration that opened is the one

  module _ (c : Settings) (tree : Tree) (f : OpensTo ShowsFiles password c tree Before After) where
    pub configured : settings_of first.opened.config ≡ c
    configured = is_opened trace faults G password vault keeper first b mid After only last_calls c tree f

    stands_last : G.kept x.keeper ≡ kept_of G first → OutsideStandsFor ShowsFiles c tree After
    stands_last = represents_last trace faults G password vault keeper first b mid After only last_calls c tree f

    marked_last : IsKeptMarked records After.kept ⊎ OutsideStandsFor ShowsFiles c tree After
    marked_last = elim (marked trace faults G mid set bad e.settles e.judges.ready) [
      | inl m ↦ inl (subst (λ (k : Option (List ℕ)). IsKeptMarked records k) (sym last_kept) m)
      | inr same ↦ inr (stands_last (last_kept ∙ (same ∙ mid_kept)))
    ]

    calm_last : lies After ≤ lies Before → bad ≡ false
    calm_last honest = e.judges.calm tree tree (stood trace faults G password vault keeper first b mid After only last_calls c tree f) (fewer_lies trace faults G password vault keeper first b mid After only last_calls honest)

  -- what is kept is marked, or what opening left
  taken : TakesSame Before.kept After.kept
  taken = λ least takes. elim (marked trace faults G mid set bad e.settles e.judges.ready) [
    | inl m ↦ inl (subst (λ (k : Option (List ℕ)). IsKeptMarked records k) (sym last_kept) m)
    | inr same ↦ equal_same (kept_of G first) After.kept (last_kept ∙ (same ∙ mid_kept)) least (loaded_same Before.kept (kept_of G first) b.attached.state b.attached.list [] b.attached.loaded b.attached.kept least takes)
  ]

  run : IsExaminedRun ShowsFiles password Before After bad
  run = record {
    stands = λ c tree f fine. stands_last c tree f (unsaved_after fine).0;
    condemned = λ c tree f is. marked_last c tree f;
    calm = calm_last;
    marked = λ m. absurd (unmarked m);
    least = taken;
  }

  -- ---- the configuration's file

  kept_file : (file : List ℕ) → is_some Before.calls ≡ true → KeptConfigures records Before.kept Before.calls file → KeptConfigures records After.kept After.calls file
  kept_file file told k =
      let c = config_left trace faults G password vault keeper first b mid After only last_calls e.judges.stays file told k in
      let done = configures trace faults G mid set bad e.settles file c in
      let calls = last_calls ∙ sym (ap (λ (s : Cached V). trace_in trace s) (same_store trace faults G mid set bad e.settles)) in
      subst (λ (k : Option (List ℕ)). KeptConfigures records k (trace x.vault) file) (sym last_kept)
      (subst (λ (t : Option (List Call)). KeptConfigures records (kept_of G set) t file) (sym calls) done)

  opens : StayOpen Before After
  opens = λ other c told o. (o.0, o.1, kept_file o.0 told o.2, o.3)

  pub examined : IsExamined trace faults G password vault keeper x
  examined = record {
    o = first.opened;
    kept = kept_of G first;
    calls = calls_of trace first;
    attached = b.attached;
    judged = judged_is;
    leaves = leaves;
    config = configured;
    unmarked = unmarked;
    run = run;
    opens = opens;
  }
