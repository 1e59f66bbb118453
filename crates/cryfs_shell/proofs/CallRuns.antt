-- Each call is a run of one file system.
use Rattle.std.proofs.Common.{◌≡◌, ℕ, Bool, true, false, List, [], refl, sym, subst, inl, inr}
use Rattle.std.specs.declared.option.Option.{Option}
use Rattle.std.specs.declared.option.Option.TheVariants.{Some}
use Rattle.rand_core.specs.Stream.{Stream as Chance}
use Rattle.trial_runs.specs.answers.Sessions.{Exchange, is_violation}
use Rattle.check_runs.specs.Judging.{is_bad}
use Rattle.check_runs.specs.Running.{RanCheck}
use Rattle.check_runs.specs.SurveyRuns.{RanSurvey}
use Rattle.check_runs.proofs.Leaving.{examined_run}
use Rattle.check_runs.proofs.SurveyLeaving.{quiet_run}
use Rattle.check_runs.specs.setup_runs.Info.{Told}
use Rattle.check_runs.specs.setup_runs.Migrate.{RanMigrate}
use Rattle.check_runs.specs.setup_runs.Passwd.{RanPasswd}
use Rattle.fs_model.specs.Instant.{Instant}
use Rattle.session_laws.specs.Histories.{Run, session, quiet, examined, migrated, looked}
use Rattle.trial_runs.specs.line_io.Streams.{Stream}
use Rattle.outside.specs.Trace.{Call}
use Rattle.outside.specs.declared.keeper.Keeper.{Ghosts as KeeperGhosts}
use Rattle.session_laws.specs.Openings.{AreUncalled}
use Rattle.run_status.specs.declared.ended.Ended.{Ended}
use Rattle.run_status.specs.declared.status.Status.{Status}
use Rattle.trial_runs.specs.session_lines.declared.end.End.{End}
use Rattle.session_laws.specs.Runs.{Outside, outside_of, IsQuietRun}
use Rattle.copy_runs.specs.shell_runs.Sessions.{Session}
use Rattle.program_words.specs.declared.form.Form.{Form}
use Rattle.program_words.specs.declared.form.Form.TheVariants.{Trial, TrialGenerate, Create, Info, Passwd, Migrate, Shell, Generate, Command, Import, Export, ImportTimes, ExportTimes, Put, Get, Check, Survey, Look}
use Rattle.program_words.specs.Forms.{form_of, is_create}
use Rattle.program_words.proofs.FormsOf.{IsPlain, other_is_other}
use Rattle.check_runs.specs.mount_core.Showing.{ShowsFiles}
use Rattle.cryfs_shell.proofs.Checks.{ends_by, bad_by}
use Rattle.cryfs_shell.proofs.Migrations as migrations
use Rattle.check_runs.specs.mount_migrating.Migrating.{told}
use Rattle.cryfs_shell.specs.Doing.{Did}
use Rattle.cryfs_shell.specs.Kinds.{is_look}
use Rattle.cryfs_shell.specs.Streams.{Streams}
use Rattle.cryfs_shell.specs.History.{Comes, Judges, Meets, IsRunOf}

-- nothing happened outside
still : (password : List ℕ) (o : Outside) → IsQuietRun ShowsFiles password o o
still password o = record { stands = λ c tree f. f.stands; marked = λ m. (refl, refl); least = λ least takes. takes }

module _ {V : Type 0} {K : Type 0} (trace : V → Option (List Call)) (faults : V → ℕ) (G : KeeperGhosts K) (given : Stream) (Came : Option (List ℕ) → End → Status → List Exchange → Type 0) (Judged Met : Bool → Type 0) (Looks : Type 0) (vault : V) (keeper : K) (ended : Ended V K) where
  abbrev Before : Outside
  Before = outside_of trace faults G vault keeper

  abbrev After : Outside
  After = outside_of trace faults G ended.vault ended.keeper

  abbrev History : Type 0
  History = (run : Run) × IsRunOf given Came Judged Met Looks Before After run

  quietly : (password : List ℕ) → IsQuietRun ShowsFiles password Before After → History
  quietly password q = (quiet password Before After, record { is_run = q; came = tt; begins = refl; ends = refl })

  pub idly : AreUncalled vault keeper ended → History
  idly u =
      quietly [] (subst (λ (v : V). IsQuietRun ShowsFiles [] Before (outside_of trace faults G v ended.keeper)) (sym u.same_vault)
      (subst (λ (k : K). IsQuietRun ShowsFiles [] Before (outside_of trace faults G vault k)) (sym u.same_keeper) (still [] Before)))

  session_history : (output : Stream) → Session trace faults G Came given output vault keeper ended → History
  session_history output (inl u) = idly u.uncalled
  session_history output (inr (password, script, has, inl ((error, u), unfailed, unwritten))) = quietly password u.quiet
  session_history output (inr (password, script, has, inr s)) =
      (session password Before After s.closing s.es, record { is_run = s.session; came = (script, has, s.end, s.own, s.came); begins = refl; ends = refl })

  told_history : (input output : Stream) → Told trace faults G input output vault keeper ended → History
  told_history input output (inl u) = idly u.uncalled
  told_history input output (inr (password, after, has, unfailed, inl ((error, u), unwritten))) = quietly password u.quiet
  told_history input output (inr (password, after, has, unfailed, inr t)) = quietly password t.quiet

  changed_history : (chance left : Chance) (input output : Stream) → RanPasswd trace faults G chance left input output vault keeper ended → History
  changed_history chance left input output (inl (u, same)) = idly u.uncalled
  changed_history chance left input output (inr (old, new, has, unfailed, inl ((error, u), unwritten, same))) = quietly old u.quiet
  changed_history chance left input output (inr (old, new, has, unfailed, inr c)) = quietly old c.quiet

  checked_history : (names : V → Option (List (List ℕ))) (input output : Stream) → ((bad : Bool) → Judges (Some Check) ended.status bad → Judged bad) → RanCheck trace faults names G input output vault keeper ended → History
  checked_history names input output judged (inl u) = idly u.uncalled
  checked_history names input output judged (inr (password, after, has, unfailed, inl ((error, u), unwritten))) = quietly password u.quiet
  checked_history names input output judged (inr (password, after, has, unfailed, inr t)) =
      let verdict : Judges (Some Check) ended.status (is_bad t.x.verdict) = (ends_by trace faults names G password output vault keeper ended t, bad_by trace faults names G password output vault keeper ended t) in (
        examined password Before After (is_bad t.x.verdict),
        record { is_run = examined_run trace faults names G password output vault keeper ended t; came = judged (is_bad t.x.verdict) verdict; begins = refl; ends = refl },
      )

  surveyed_history : (names : V → Option (List (List ℕ))) (input output : Stream) → RanSurvey trace faults names G input output vault keeper ended → History
  surveyed_history names input output (inl u) = idly u.uncalled
  surveyed_history names input output (inr (password, after, has, unfailed, inl ((error, u), unwritten))) = quietly password u.quiet
  surveyed_history names input output (inr (password, after, has, unfailed, inr t)) = quietly password (quiet_run trace faults names G password output vault keeper ended t)

  migrated_history : (input output : Stream) → ((bad : Bool) → Meets (Some Migrate) ended.status bad → Met bad) → RanMigrate trace faults G input output vault keeper ended → History
  migrated_history input output met (inl u) = idly u.uncalled
  migrated_history input output met (inr (password, after, has, unfailed, inl ((error, u), unwritten))) = quietly password u.quiet
  migrated_history input output met (inr (password, after, has, unfailed, inr m)) =
      let bad = is_violation (told m.migration) in
      let verdict : Meets (Some Migrate) ended.status bad = (migrations.met_by trace faults G password output vault keeper ended m, migrations.bad_by trace faults G password output vault keeper ended m) in
      (migrated password Before After bad, record { is_run = m.leaves.run; came = met bad verdict; begins = refl; ends = refl })

-- words that don't begin with `create` are of another form
pub other_form : (words : List (List ℕ)) (form : Form) → form_of words ≡ Some form → is_create words ≡ false → IsPlain form
other_form words (Create options) e other = absurd (other_is_other words options other e)
other_form words Trial e other = tt
other_form words (TrialGenerate count) e other = tt
other_form words Info e other = tt
other_form words Passwd e other = tt
other_form words Migrate e other = tt
other_form words Shell e other = tt
other_form words (Generate count) e other = tt
other_form words Command e other = tt
other_form words (Import path) e other = tt
other_form words (Export path) e other = tt
other_form words (ImportTimes path) e other = tt
other_form words (ExportTimes path) e other = tt
other_form words (Put path) e other = tt
other_form words (Get path) e other = tt
other_form words Check e other = tt
other_form words Survey e other = tt
other_form words Look e other = tt

-- ---- by its form

module _ {V : Type 0} {K : Type 0} (trace : V → Option (List Call)) (faults : V → ℕ) (names : V → Option (List (List ℕ))) (G : KeeperGhosts K) (words : List (List ℕ)) (now : Instant) (s : Streams) (vault : V) (keeper : K) (ended : Ended V K) where
  abbrev Done : Form → Type 0
  Done form = History trace faults G s.input (Comes words now s (Some form)) (Judges (Some form) ended.status) (Meets (Some form) ended.status) (is_look (Some form) ≡ true) vault keeper ended

  pub doing_history : (form : Form) → IsPlain form → Did trace faults names G words now s vault keeper ended (Some form) → Done form
  doing_history Trial p d = idly trace faults G s.input (Comes words now s (Some Trial)) (Judges (Some Trial) ended.status) (Meets (Some Trial) ended.status) (is_look (Some Trial) ≡ true) vault keeper ended d.1
  doing_history (TrialGenerate count) p d = idly trace faults G s.input (Comes words now s (Some (TrialGenerate count))) (Judges (Some (TrialGenerate count)) ended.status) (Meets (Some (TrialGenerate count)) ended.status) (is_look (Some (TrialGenerate count)) ≡ true) vault keeper ended d.2
  doing_history (Create options) p d = absurd p
  doing_history Info p d = told_history trace faults G s.input (Comes words now s (Some Info)) (Judges (Some Info) ended.status) (Meets (Some Info) ended.status) (is_look (Some Info) ≡ true) vault keeper ended s.input s.output d
  doing_history Passwd p d = changed_history trace faults G s.input (Comes words now s (Some Passwd)) (Judges (Some Passwd) ended.status) (Meets (Some Passwd) ended.status) (is_look (Some Passwd) ≡ true) vault keeper ended s.chance s.left s.input s.output d
  doing_history Migrate p d = migrated_history trace faults G s.input (Comes words now s (Some Migrate)) (Judges (Some Migrate) ended.status) (Meets (Some Migrate) ended.status) (is_look (Some Migrate) ≡ true) vault keeper ended s.input s.output (λ bad j. j) d
  doing_history Shell p d = session_history trace faults G s.input (Comes words now s (Some Shell)) (Judges (Some Shell) ended.status) (Meets (Some Shell) ended.status) (is_look (Some Shell) ≡ true) vault keeper ended s.output d
  doing_history (Generate count) p d = session_history trace faults G s.input (Comes words now s (Some (Generate count))) (Judges (Some (Generate count)) ended.status) (Meets (Some (Generate count)) ended.status) (is_look (Some (Generate count)) ≡ true) vault keeper ended s.output d
  doing_history Command p d = session_history trace faults G s.input (Comes words now s (Some Command)) (Judges (Some Command) ended.status) (Meets (Some Command) ended.status) (is_look (Some Command) ≡ true) vault keeper ended s.output d
  doing_history (Import path) p d = session_history trace faults G s.input (Comes words now s (Some (Import path))) (Judges (Some (Import path)) ended.status) (Meets (Some (Import path)) ended.status) (is_look (Some (Import path)) ≡ true) vault keeper ended s.output d.0
  doing_history (Export path) p d = session_history trace faults G s.input (Comes words now s (Some (Export path))) (Judges (Some (Export path)) ended.status) (Meets (Some (Export path)) ended.status) (is_look (Some (Export path)) ≡ true) vault keeper ended s.output d.0
  doing_history (ImportTimes path) p d = session_history trace faults G s.input (Comes words now s (Some (ImportTimes path))) (Judges (Some (ImportTimes path)) ended.status) (Meets (Some (ImportTimes path)) ended.status) (is_look (Some (ImportTimes path)) ≡ true) vault keeper ended s.output d.0
  doing_history (ExportTimes path) p d = session_history trace faults G s.input (Comes words now s (Some (ExportTimes path))) (Judges (Some (ExportTimes path)) ended.status) (Meets (Some (ExportTimes path)) ended.status) (is_look (Some (ExportTimes path)) ≡ true) vault keeper ended s.output d.0
  doing_history (Put path) p d = session_history trace faults G s.input (Comes words now s (Some (Put path))) (Judges (Some (Put path)) ended.status) (Meets (Some (Put path)) ended.status) (is_look (Some (Put path)) ≡ true) vault keeper ended s.output d
  doing_history (Get path) p d = session_history trace faults G s.input (Comes words now s (Some (Get path))) (Judges (Some (Get path)) ended.status) (Meets (Some (Get path)) ended.status) (is_look (Some (Get path)) ≡ true) vault keeper ended s.output d
  doing_history Check p d = checked_history trace faults G s.input (Comes words now s (Some Check)) (Judges (Some Check) ended.status) (Meets (Some Check) ended.status) (is_look (Some Check) ≡ true) vault keeper ended names s.input s.output (λ bad j. j) d
  doing_history Survey p d = surveyed_history trace faults G s.input (Comes words now s (Some Survey)) (Judges (Some Survey) ended.status) (Meets (Some Survey) ended.status) (is_look (Some Survey) ≡ true) vault keeper ended names s.input s.output d
  doing_history Look p d = (looked (outside_of trace faults G vault keeper) (outside_of trace faults G ended.vault ended.keeper), record { is_run = d.looked; came = refl; begins = refl; ends = refl })
