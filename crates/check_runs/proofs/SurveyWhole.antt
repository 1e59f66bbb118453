-- A run of a survey, from how it began, what was found and how it was closed.
use Rattle.std.proofs.Common.{◌≡◌, ◌≤◌, ◌∙◌, ℕ, Bool, true, false, List, [], map, sym, ap, subst, inr, arith}
use Rattle.std.specs.Prelude.{is_some, IsOk}
use Rattle.std.specs.declared.option.Option.{Option}
use Rattle.setup_runs.specs.config_file.Settings.{Settings, settings_of}
use Rattle.fs_model.specs.Tree.{Tree}
use Rattle.block_versions.specs.Standing.{records}
use Rattle.setup_runs.specs.mount.Answering.{store_of, calls_of, lies_of, vault_faults, kept_of}
use Rattle.setup_runs.specs.mount.declared.mount.Mount.{Mount}
use Rattle.check_blocks.specs.Examined.{OnlyExamined}
use Rattle.check_blocks.specs.ExaminedLaws.{examined_lawful}
use Rattle.check_blocks.specs.declared.examined.Examined.{Examined}
use Rattle.setup_runs.specs.mount_core.Standing.{IsKeptMarked}
use Rattle.setup_runs.specs.mount_stores.Tower.{held_in, vault_in}
use Rattle.outside.specs.Causes.{RoseBy}
use Rattle.check_refused.specs.Surveys.{refusals, ungiven_of}
use Rattle.outside.specs.Trace.{Call}
use Rattle.outside.specs.declared.keeper.Keeper.{Ghosts as KeeperGhosts}
use Rattle.check_walk.proofs.data_tree_lemmas.Forests.{stays-then}
use Rattle.setup_runs.proofs.session_laws_lemmas.Still.{went_got}
use Rattle.setup_runs.proofs.session_laws_lemmas.Whole.{only_one}
use Rattle.setup_runs.specs.session_laws.Openings.{StayOpen}
use Rattle.setup_runs.specs.session_laws.Resting.{OnlyGot}
use Rattle.setup_runs.specs.session_laws.Runs.{Outside, outside_of, lies, OpensTo, IsQuietRun}
use Rattle.setup_runs.specs.session_laws.Turns.{Begun}
use Rattle.setup_runs.specs.record_saver.Saving.{KeptConfigures}
use Rattle.setup_runs.specs.record_saver.declared.saver.Saver.{Saver}
use Rattle.setup_runs.specs.mount_core.Showing.{ShowsFiles}
use Rattle.setup_runs.proofs.mount_lemmas.Formats.{equal_same, loaded_same}
use Rattle.setup_runs.specs.mount.Formats.{TakesSame}
use Rattle.check_runs.specs.Judging.{is_bad, held_for, IsJudged}
use Rattle.check_runs.specs.Surveying.{IsSurveyed, SurveysAll, Looks, LeavesSurveyed, IsSurveyedRun, faults_told, needs_survey}
use Rattle.check_runs.specs.declared.surveying.Survey.{Survey}
use Rattle.check_runs.proofs.Opened.{called_for, is_opened, stood, represents_last, fewer_lies, config_left}
use Rattle.check_runs.proofs.Looking.{fine_quiet, Looked, looked, looked_calm, looked_rose, looks_on, told_rose, unlooked}

module _ {V : Type 0} {K : Type 0} (trace : V → Option (List Call)) (faults : V → ℕ) (G : KeeperGhosts K) (password : List ℕ) (vault : V) (keeper : K) (first : Mount V K) (x : Survey V K)
    (b : Begun ShowsFiles trace faults G password vault keeper first) (unmarked : ¬ IsKeptMarked records (G.kept keeper)) (e : Looks trace faults G first x) where
  abbrev Before : Outside
  Before = outside_of trace faults G vault keeper

  abbrev After : Outside
  After = outside_of trace faults G x.vault x.keeper

  abbrev start : Examined V K
  start = record { mount = first }

  abbrev mid : Mount V K
  mid = e.judged.mount

  abbrev last : Mount V K
  last = e.surveyed.mount

  abbrev needed : Bool
  needed = needs_survey x.verdict

  looks : Looked trace faults G e.judged e.surveyed
  looks = looked trace faults G e.judged e.surveyed x.ungiven.items x.end needed e.judges.ready e.surveys

  only : OnlyExamined trace faults first last
  only = (examined_lawful trace faults G).onward start e.judged e.surveyed e.judges.only looks.only

  closed : IsOk x.closing × (x.vault ≡ vault_in (store_of last)) × (x.keeper ≡ last.core.saver.keeper)
  closed = e.closed.closes.left (inr (ap (λ (s : Saver K). s.changed) only.beside.saver ∙ b.opened.unchanged))

  last_calls : trace x.vault ≡ calls_of trace last
  last_calls = ap trace closed.1

  last_faults : faults x.vault ≡ vault_faults trace faults last
  last_faults = ap faults closed.1

  last_kept : G.kept x.keeper ≡ kept_of G first
  last_kept = ap G.kept closed.2 ∙ ap (λ (s : Saver K). G.kept s.keeper) only.beside.saver

  last_failed : G.faults x.keeper ≡ G.faults keeper
  last_failed = ap G.faults closed.2 ∙ (ap (λ (s : Saver K). G.faults s.keeper) only.beside.saver ∙ b.calls.keeper_quiet)

  -- where no survey is needed nothing more was asked for
  same_last : needed ≡ false → e.surveyed ≡ e.judged
  same_last fine = unlooked trace faults G e.judged e.surveyed x.ungiven.items x.end needed e.surveys fine

  surveys : needed ≡ true → SurveysAll trace faults G e.judged e.surveyed x.ungiven.items x.end
  surveys is = looks_on trace faults G e.judged e.surveyed x.ungiven.items x.end needed e.surveys is

  rose : RoseBy (faults_told x.verdict x.ungiven.items) (vault_faults trace faults first) (vault_faults trace faults last)
  rose = told_rose x.verdict x.ungiven.items (vault_faults trace faults first) (vault_faults trace faults mid) (vault_faults trace faults last) e.judges.fault
      ((examined_lawful trace faults G).faults_grow start e.judged e.judges.only) (looked_rose trace faults G e.judged e.surveyed x.ungiven.items x.end needed e.surveys)

  leaves : LeavesSurveyed trace faults G vault keeper (kept_of G first) (calls_of trace first) x
  leaves = record {
    closed = closed.0;
    only_got = subst (λ (t : Option (List Call)). OnlyGot (calls_of trace first) t) (sym last_calls) (went_got (held_in (store_of first)) (calls_of trace first) (calls_of trace last) only.loaded.trace);
    vault_grows = let g = only.loaded.faults in let q = b.calls.vault_quiet in omega (arith, g, last_faults, q);
    vault_cause = subst (λ (n : ℕ). RoseBy (faults_told x.verdict x.ungiven.items) n (faults x.vault)) b.calls.vault_quiet
        (subst (λ (n : ℕ). RoseBy (faults_told x.verdict x.ungiven.items) (vault_faults trace faults first) n) (sym last_faults) rose);
    vault_quiet = λ fine. last_faults ∙ (ap (λ (y : Examined V K). vault_faults trace faults y.mount) (same_last fine)
        ∙ (fine_quiet x.verdict (vault_faults trace faults first) (vault_faults trace faults mid) fine e.judges.quiet ∙ b.calls.vault_quiet));
    unsaved = last_kept;
    keeper_quiet = last_failed;
  }

  -- ---- what was found, of what the record calls for

  judged_is : IsJudged (held_for (settings_of first.opened.config) b.attached.state) (settings_of first.opened.config).root (calls_of trace first) (calls_of trace mid) x.verdict
  judged_is = called_for trace faults G password vault keeper first b (λ h r. IsJudged h r (calls_of trace first) (calls_of trace mid) x.verdict) (e.judges.judged (b.opened.ready.core.whole.none b.opened.unchanged))

  surveyed_is : needed ≡ true → IsSurveyed (held_for (settings_of first.opened.config) b.attached.state) (calls_of trace mid) (trace x.vault) x.ungiven.items x.end
  surveyed_is is =
      subst (λ (t : Option (List Call)). IsSurveyed (held_for (settings_of first.opened.config) b.attached.state) (calls_of trace mid) t x.ungiven.items x.end) (sym last_calls)
      (called_for trace faults G password vault keeper first b (λ h r. IsSurveyed h (calls_of trace mid) (calls_of trace last) x.ungiven.items x.end)
      (subst (λ h. IsSurveyed h (calls_of trace mid) (calls_of trace last) x.ungiven.items x.end) e.judges.only.loaded.held (surveys is).surveyed))

  -- ---- what is kept

  taken : TakesSame Before.kept After.kept
  taken = λ least takes. equal_same (kept_of G first) After.kept last_kept least (loaded_same Before.kept (kept_of G first) b.attached.state b.attached.list [] b.attached.loaded b.attached.kept least takes)

  quiet : IsQuietRun ShowsFiles password Before After
  quiet = record {
    stands = λ c tree f. represents_last trace faults G password vault keeper first b last After only last_calls c tree f last_kept;
    marked = λ m. absurd (unmarked m);
    least = taken;
  }

  kept_file : (file : List ℕ) → is_some Before.calls ≡ true → KeptConfigures records Before.kept Before.calls file → KeptConfigures records After.kept After.calls file
  kept_file file told k =
      let c = config_left trace faults G password vault keeper first b last After only last_calls (stays-then e.judges.stays looks.stays) file told k in
      let done = only_one (kept_of G last) (calls_of trace last) file c.kept in
      subst (λ (k : Option (List ℕ)). KeptConfigures records k (trace x.vault) file) (sym (ap G.kept closed.2)) (subst (λ (t : Option (List Call)). KeptConfigures records (kept_of G last) t file) (sym last_calls) done)

  opens : StayOpen Before After
  opens = λ other c told o. (o.0, o.1, kept_file o.0 told o.2, o.3)

  calm : (c : Settings) (tree : Tree) → OpensTo ShowsFiles password c tree Before After → lies After ≤ lies Before → (is_bad x.verdict ≡ false) × (refusals (map ungiven_of x.ungiven.items) ≡ 0)
  calm c tree f honest =
      let laws = examined_lawful trace faults G in
      let all = fewer_lies trace faults G password vault keeper first b last After only last_calls honest in
      let early = laws.lies_grow start e.judged e.judges.only in
      let grow = laws.lies_grow e.judged e.surveyed looks.only in
      let stands = stood trace faults G password vault keeper first b last After only last_calls c tree f in
      let none : lies_of trace faults mid ≤ lies_of trace faults first = omega (arith, all, grow) in
      let unforged = laws.honest_unforged start e.judged e.judges.only stands.sound none in
      (e.judges.calm tree tree stands none, looked_calm trace faults G e.judged e.surveyed x.ungiven.items x.end needed e.surveys (e.judges.sound stands.sound unforged) (omega (arith, all, early)))

  pub surveyed : IsSurveyedRun trace faults G password vault keeper x
  surveyed = record {
    o = first.opened;
    kept = kept_of G first;
    calls = calls_of trace first;
    attached = b.attached;
    between = calls_of trace mid;
    judged = judged_is;
    surveyed = surveyed_is;
    unsurveyed = λ fine. last_calls ∙ ap (λ (y : Examined V K). calls_of trace y.mount) (same_last fine);
    leaves = leaves;
    config = is_opened trace faults G password vault keeper first b last After only last_calls;
    unmarked = unmarked;
    quiet = quiet;
    calm = calm;
    opens = opens;
  }
