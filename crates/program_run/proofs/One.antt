-- What one call of `run` is.
use Rattle.std.proofs.Common.{◌≡◌, ◌≢◌, ◌∙◌, ◌||◌, ℕ, true, false, List, [], refl, sym, ap, subst, inl, inr}
use Rattle.std.specs.Prelude.{Result, is_some}
use Rattle.std.specs.declared.option.Option.{Option}
use Rattle.std.specs.declared.option.Option.TheVariants.{None, Some}
use Rattle.std.specs.declared.result.Result.TheVariants.{Ok, Err}
use Rattle.block_id.specs.declared.id.BlockId.{BlockId}
use Rattle.cryfs_shell.specs.check_runs.Judging.{is_bad}
use Rattle.cryfs_shell.specs.check_runs.Running.{RanCheck}
use Rattle.cryfs_shell.proofs.check_runs_lemmas.Leaving.{examined_run}
use Rattle.cryfs_shell.proofs.check_runs_lemmas.SurveyLeaving.{quiet_run}
use Rattle.cryfs_shell.specs.block_versions.Standing.{records}
use Rattle.cryfs_shell.specs.line_io.Lines.{first_line}
use Rattle.cryfs_shell.specs.line_io.Streams.{Untouched}
use Rattle.cryfs_shell.proofs.mount_lemmas.Formats.{equal_same}
use Rattle.cryfs_shell.specs.mount.Making.{StaysThere}
use Rattle.cryfs_shell.specs.mount_stores.declared.error.OpenError.{OpenError}
use Rattle.cryfs_shell.specs.mount_core.Standing.{IsKeptMarked}
use Rattle.outside.specs.Trace.{Call}
use Rattle.outside.specs.declared.keeper.Keeper.{Ghosts as KeeperGhosts}
use Rattle.cryfs_shell.specs.run_frame.Passwords.{IsNextPassword, PasswordUnread, PasswordsUnread}
use Rattle.cryfs_shell.specs.session_laws.Openings.{AreUncalled, IsUnread, IsUnopened}
use Rattle.run_status.specs.declared.status.Status.{Status}
use Rattle.run_status.specs.declared.status.Status.TheVariants.{Done}
use Rattle.cryfs_shell.specs.session_laws.Runs.{Outside, outside_of, OutsideStandsFor, IsQuietRun}
use Rattle.cryfs_shell.specs.shell_runs.Sessions.{Session}
use Rattle.cryfs_shell.specs.program_words.declared.form.Form.{Form}
use Rattle.cryfs_shell.specs.program_words.declared.form.Form.TheVariants.{Trial, TrialGenerate, Create, Info, Passwd, Migrate, Shell, Generate, Command, Import, Export, ImportTimes, ExportTimes, Put, Get, Check, Survey, Look}
use Rattle.cryfs_shell.specs.program_words.Forms.{form_of}
use Rattle.cryfs_shell.specs.mount_core.Showing.{ShowsFiles}
use Rattle.cryfs_shell.specs.session_laws.Histories.{Run, session, quiet, examined, migrated, looked, before_of, after_of, IsRun, GoesOnFrom}
use Rattle.cryfs_shell.specs.answers.Sessions.{is_violation}
use Rattle.cryfs_shell.specs.setup_runs.Migrate.{RanMigrate}
use Rattle.cryfs_shell.specs.mount_migrating.Migrating.{told}
use Rattle.cryfs_shell.specs.Clauses.{IsRefusingStatus, NoFalseAlarm, TellsFaults}
use Rattle.cryfs_shell.specs.Doing.{Did}
use Rattle.cryfs_shell.specs.History.{Comes}
use Rattle.cryfs_shell.specs.Kinds.{opens, heeds_mark, is_session, is_check, is_migration, is_look}
use Rattle.cryfs_shell.proofs.Checks.{ends_by, bad_by}
use Rattle.cryfs_shell.proofs.Migrations as migrations
use Rattle.cryfs_shell.proofs.Statuses.{opening_is_no}
use Rattle.cryfs_shell.proofs.Sessions.{UnreadCause, one_unread, two_unread, unread_is_no, password_is}
use Rattle.program_run.specs.Calls.{RunCall, IsRunCall}
use Rattle.program_run.specs.Lists.{CallAnswered, IsRunOf, creates, IsUnder}

-- the first line of a told input
abbrev password_in : Option (List ℕ) → List ℕ
password_in None = []
password_in (Some bytes) = first_line bytes

module _ {V : Type 0} {K : Type 0} (trace : V → Option (List Call)) (faults : V → ℕ) (names : V → Option (List (List ℕ))) (G : KeeperGhosts K) (call : RunCall) (h : IsRunCall trace faults names G call) where
  abbrev Before : Outside
  Before = outside_of trace faults G h.vault h.keeper

  abbrev After : Outside
  After = outside_of trace faults G h.ended.vault h.ended.keeper

  -- a run of words that ask for this
  record Ran (asked : Option Form) : Type 0 where
    run : Run
    is_run : IsRun ShowsFiles run
    begins : before_of run ≡ Before
    ends : after_of run ≡ After
    password : (bytes : List ℕ) → call.streams.input.old ≡ Some bytes → IsUnder (first_line bytes) run
    answered : CallAnswered call asked run

  quiet_ran : (asked : Option Form) (password : List ℕ) → ((bytes : List ℕ) → call.streams.input.old ≡ Some bytes → password ≡ first_line bytes) → IsQuietRun ShowsFiles password Before After
      → ((is_session asked || is_check asked || is_migration asked) ≡ true → Untouched call.streams.output × (h.ended.status ≢ Done)) → Ran asked
  quiet_ran asked password first q silent = record {
    run = quiet password Before After;
    is_run = q;
    begins = refl;
    ends = refl;
    password = first;
    answered = λ e. ((silent e).0, λ done. (silent e).1 (sym h.status ∙ done));
  }

  uncalled_quiet : (password : List ℕ) → AreUncalled h.vault h.keeper h.ended → IsQuietRun ShowsFiles password Before After
  uncalled_quiet password u = record {
    stands = λ c tree f. subst (λ (v : V). OutsideStandsFor ShowsFiles c tree (outside_of trace faults G v h.ended.keeper)) (sym u.same_vault)
        (subst (λ (k : K). OutsideStandsFor ShowsFiles c tree (outside_of trace faults G h.vault k)) (sym u.same_keeper) f.stands);
    marked = λ m. (ap G.kept u.same_keeper, ap trace u.same_vault);
    least = equal_same Before.kept After.kept (ap G.kept u.same_keeper);
  }

  next_first : (password : List ℕ) (script : Option (List ℕ)) → IsNextPassword call.streams.input.old password script → (bytes : List ℕ) → call.streams.input.old ≡ Some bytes → password ≡ first_line bytes
  next_first password script next bytes told = sym (password_is call.streams.input.old bytes password script told next)

  unread_ran : (asked : Option Form) (Cause : Status → Type 0) → ((status : Status) → Cause status → UnreadCause call.streams.input status) → IsUnread Cause call.streams.output h.vault h.keeper h.ended → Ran asked
  unread_ran asked Cause cause u =
      quiet_ran asked (password_in call.streams.input.old) (λ bytes told. ap password_in told) (uncalled_quiet (password_in call.streams.input.old) u.uncalled)
      (λ e. (u.unwritten, λ done. unread_is_no h.ended.status Done (cause h.ended.status u.cause).unread done (λ x. x)))

  unopened_ran : (asked : Option Form) (password : List ℕ) (script : Option (List ℕ)) → IsNextPassword call.streams.input.old password script
      → (error : OpenError) → IsUnopened trace faults G password h.vault h.keeper h.ended error → Untouched call.streams.output → Ran asked
  unopened_ran asked password script next error u unwritten =
      quiet_ran asked password (next_first password script next) u.quiet (λ e. (unwritten, λ done. opening_is_no error h.ended.status Done u.status done (λ x. x)))

  session_ran : (asked : Option Form) → Session trace faults G (Comes call.words call.now call.streams asked) call.streams.input call.streams.output h.vault h.keeper h.ended → Ran asked
  session_ran asked (inl u) = unread_ran asked (PasswordUnread call.streams.input) (one_unread call.streams.input) u
  session_ran asked (inr (password, script, has, inl ((error, u), unfailed, unwritten))) = unopened_ran asked password script has.is_next error u unwritten
  session_ran asked (inr (password, script, has, inr s)) = record {
    run = session password Before After s.closing s.es;
    is_run = s.session;
    begins = refl;
    ends = refl;
    password = next_first password script has.is_next;
    answered = (script, has, s.end, s.own, s.came, h.status ∙ s.status);
  }

  checked_ran : RanCheck trace faults names G call.streams.input call.streams.output h.vault h.keeper h.ended → Ran (Some Check)
  checked_ran (inl u) = unread_ran (Some Check) (PasswordUnread call.streams.input) (one_unread call.streams.input) u
  checked_ran (inr (password, after, has, unfailed, inl ((error, u), unwritten))) = unopened_ran (Some Check) password after has.is_next error u unwritten
  checked_ran (inr (password, after, has, unfailed, inr t)) = record {
    run = examined password Before After (is_bad t.x.verdict);
    is_run = examined_run trace faults names G password call.streams.output h.vault h.keeper h.ended t;
    begins = refl;
    ends = refl;
    password = next_first password after has.is_next;
    answered = (
      after,
      has,
      (
        λ bad. h.status ∙ ends_by trace faults names G password call.streams.output h.vault h.keeper h.ended t bad,
        λ e. bad_by trace faults names G password call.streams.output h.vault h.keeper h.ended t (sym h.status ∙ e),
      ),
    );
  }

  migrated_ran : RanMigrate trace faults G call.streams.input call.streams.output h.vault h.keeper h.ended → Ran (Some Migrate)
  migrated_ran (inl u) = unread_ran (Some Migrate) (PasswordUnread call.streams.input) (one_unread call.streams.input) u
  migrated_ran (inr (password, after, has, unfailed, inl ((error, u), unwritten))) = unopened_ran (Some Migrate) password after has.is_next error u unwritten
  migrated_ran (inr (password, after, has, unfailed, inr m)) = record {
    run = migrated password Before After (is_violation (told m.migration));
    is_run = m.leaves.run;
    begins = refl;
    ends = refl;
    password = next_first password after has.is_next;
    answered = (
      after,
      has,
      (
        λ bad. h.status ∙ migrations.met_by trace faults G password call.streams.output h.vault h.keeper h.ended m bad,
        λ e. migrations.bad_by trace faults G password call.streams.output h.vault h.keeper h.ended m (sym h.status ∙ e),
      ),
    );
  }

  did_run : (asked : Option Form) → opens asked ≡ true → Did trace faults names G call.words call.now call.streams h.vault h.keeper h.ended asked → Ran asked
  did_run None e d = absurd (cc)
  did_run (Some Trial) e d = absurd (cc)
  did_run (Some (TrialGenerate count)) e d = absurd (cc)
  did_run (Some (Create options)) e d = absurd (cc)
  did_run (Some Info) e (inl u) = unread_ran (Some Info) (PasswordUnread call.streams.input) (one_unread call.streams.input) u
  did_run (Some Info) e (inr (password, script, has, unfailed, inl ((error, u), unwritten))) = unopened_ran (Some Info) password script has.is_next error u unwritten
  did_run (Some Info) e (inr (password, script, has, unfailed, inr t)) = quiet_ran (Some Info) password (next_first password script has.is_next) t.quiet (λ f. absurd (cc))
  did_run (Some Passwd) e (inl (u, same)) = unread_ran (Some Passwd) (PasswordsUnread call.streams.input) (two_unread call.streams.input) u
  did_run (Some Passwd) e (inr (old, new, has, unfailed, inl ((error, u), unwritten, same))) = unopened_ran (Some Passwd) old has.between has.old_is_next error u unwritten
  did_run (Some Passwd) e (inr (old, new, has, unfailed, inr p)) = quiet_ran (Some Passwd) old (next_first old has.between has.old_is_next) p.quiet (λ f. absurd (cc))
  did_run (Some Migrate) e d = migrated_ran d
  did_run (Some Shell) e d = session_ran (Some Shell) d
  did_run (Some (Generate count)) e d = session_ran (Some (Generate count)) d
  did_run (Some Command) e d = session_ran (Some Command) d
  did_run (Some (Import path)) e d = session_ran (Some (Import path)) d.0
  did_run (Some (Export path)) e d = session_ran (Some (Export path)) d.0
  did_run (Some (ImportTimes path)) e d = session_ran (Some (ImportTimes path)) d.0
  did_run (Some (ExportTimes path)) e d = session_ran (Some (ExportTimes path)) d.0
  did_run (Some (Put path)) e d = session_ran (Some (Put path)) d
  did_run (Some (Get path)) e d = session_ran (Some (Get path)) d
  did_run (Some Check) e d = checked_ran d
  did_run (Some Survey) e (inl u) = unread_ran (Some Survey) (PasswordUnread call.streams.input) (one_unread call.streams.input) u
  did_run (Some Survey) e (inr (password, script, has, unfailed, inl ((error, u), unwritten))) = unopened_ran (Some Survey) password script has.is_next error u unwritten
  did_run (Some Survey) e (inr (password, script, has, unfailed, inr t)) =
      quiet_ran (Some Survey) password (next_first password script has.is_next) (quiet_run trace faults names G password call.streams.output h.vault h.keeper h.ended t) (λ f. absurd (cc))
  did_run (Some Look) e d = record { run = looked Before After; is_run = d.looked; begins = refl; ends = refl; password = λ bytes told. tt; answered = refl }

  -- what is said of what was outside and of the status, of the call's
  stated : (P : Outside → Outside → Status → Type 0) → P Before After h.ended.status → P call.before call.after call.status
  stated P p = subst (λ (o : Outside). P o call.after call.status) (sym h.begins) (subst (λ (o : Outside). P Before o call.status) (sym h.ends) (subst (P Before After) (sym h.status) p))

  refusing : heeds_mark (form_of call.words) ≡ true → IsKeptMarked records call.before.kept → IsRefusingStatus call.status × Untouched call.streams.output
  refusing e m =
      let r = h.refusal e (subst (λ (o : Outside). IsKeptMarked records o.kept) h.begins m) in
      (subst IsRefusingStatus (sym h.status) r.status, r.unwritten)

  pub one : opens (form_of call.words) ≡ true → (run : Run) × IsRunOf call run
  one e =
      let r = did_run (form_of call.words) e h.did in (
        r.run,
        record {
          is_run = r.is_run;
          begins = r.begins ∙ sym h.begins;
          ends = r.ends ∙ sym h.ends;
          password = r.password;
          answered = r.answered;
          refused = refusing;
          no_false_alarm = λ other. stated (NoFalseAlarm call.streams.input) (h.no_false_alarm other);
          faults_told = stated (TellsFaults (form_of call.words) call.streams) h.faults_told;
        },
      )

  -- ---- calls that open no file system

  uncalled_stays : AreUncalled h.vault h.keeper h.ended → GoesOnFrom Before After
  uncalled_stays u = record { kept = ap G.kept u.same_keeper; calls = ap trace u.same_vault }

  there_stays : (made : Result BlockId OpenError) → StaysThere G.kept h.vault h.keeper h.ended.vault h.ended.keeper made → GoesOnFrom Before After
  there_stays (Ok id) s = absurd s
  there_stays (Err error) s = record { kept = s.1; calls = ap trace s.0 }

  did_stay : (asked : Option Form) → opens asked ≡ false → (creates asked ≡ true → is_some Before.kept ≡ true) → Did trace faults names G call.words call.now call.streams h.vault h.keeper h.ended asked → GoesOnFrom Before After
  did_stay None e there d = uncalled_stays d.3
  did_stay (Some Trial) e there d = uncalled_stays d.1
  did_stay (Some (TrialGenerate count)) e there d = uncalled_stays d.2
  did_stay (Some (Create options)) e there (inl u) = uncalled_stays u.uncalled
  did_stay (Some (Create options)) e there (inr (password, script, has, unfailed, c)) = there_stays c.made (c.anew.there (there refl))
  did_stay (Some Info) e there d = absurd (cc)
  did_stay (Some Passwd) e there d = absurd (cc)
  did_stay (Some Migrate) e there d = absurd (cc)
  did_stay (Some Shell) e there d = absurd (cc)
  did_stay (Some (Generate count)) e there d = absurd (cc)
  did_stay (Some Command) e there d = absurd (cc)
  did_stay (Some (Import path)) e there d = absurd (cc)
  did_stay (Some (Export path)) e there d = absurd (cc)
  did_stay (Some (ImportTimes path)) e there d = absurd (cc)
  did_stay (Some (ExportTimes path)) e there d = absurd (cc)
  did_stay (Some (Put path)) e there d = absurd (cc)
  did_stay (Some (Get path)) e there d = absurd (cc)
  did_stay (Some Check) e there d = absurd (cc)
  did_stay (Some Survey) e there d = absurd (cc)
  did_stay (Some Look) e there d = absurd (cc)

  pub other : opens (form_of call.words) ≡ false → (creates (form_of call.words) ≡ true → is_some call.before.kept ≡ true) → GoesOnFrom call.before call.after
  other e there =
      let s = did_stay (form_of call.words) e (λ f. ap (λ (o : Outside). is_some o.kept) (sym h.begins) ∙ there f) h.did in
      record { kept = ap (λ (o : Outside). o.kept) h.ends ∙ s.kept ∙ sym (ap (λ (o : Outside). o.kept) h.begins); calls = ap (λ (o : Outside). o.calls) h.ends ∙ s.calls ∙ sym (ap (λ (o : Outside). o.calls) h.begins) }
