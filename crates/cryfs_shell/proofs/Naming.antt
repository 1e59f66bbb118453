-- No fault is passed over in a run.
use Rattle.std.proofs.Common.{◌≡◌, ◌≢◌, ◌⊎◌, ℕ, ◌+◌, Bool, true, false, List, refl, sym, ◌∙◌, ap, subst, inl, inr}
use Rattle.std.specs.Prelude.{Result, IsOk}
use Rattle.std.specs.declared.option.Option.{Option}
use Rattle.std.specs.declared.option.Option.TheVariants.{None, Some}
use Rattle.std.specs.declared.result.Result.TheVariants.{Ok, Err}
use Rattle.rand_core.specs.Stream.{Stream as Chance}
use Rattle.trial_runs.specs.answers.declared.answer.Answer.{Answer}
use Rattle.copy_runs.specs.copy_laws.declared.copied.Totals.{Totals}
use Rattle.copy_runs.specs.copy_laws.Questions.{Question}
use Rattle.copy_runs.specs.copy_sessions.Fitting.{kept_after}
use Rattle.copy_runs.specs.copy_file.Coming.{IsPutTold, IsPutSession, IsGetEnd, IsGetSession, ComesPut, ComesGet}
use Rattle.copy_runs.specs.copy_file.Getting.{IsGet}
use Rattle.copy_runs.specs.copy_file.Putting.{InputBy}
use Rattle.copy_runs.specs.host_folder.Folders.{HostPath}
use Rattle.copy_runs.specs.copy_row.declared.stop.Stop.{Stop}
use Rattle.copy_runs.specs.copy_row.declared.stop.Stop.TheVariants as stop
use Rattle.trial_runs.specs.answers.Sessions.{Exchange, is_violation, violated}
use Rattle.check_runs.specs.mount_migrating.Migrating.{told}
use Rattle.block_id.specs.declared.id.BlockId.{BlockId}
use Rattle.check_runs.specs.Running.{RanCheck}
use Rattle.check_runs.specs.SurveyRuns.{RanSurvey}
use Rattle.check_runs.proofs.Leaving.{directory_quiet}
use Rattle.check_runs.proofs.SurveyLeaving as surveys
use Rattle.check_runs.specs.setup_runs.Create.{RanCreate}
use Rattle.check_runs.specs.setup_runs.CreateText.{Reports as CreateReports}
use Rattle.check_runs.specs.setup_runs.Info.{Told}
use Rattle.check_runs.specs.setup_runs.Migrate.{RanMigrate}
use Rattle.check_runs.specs.setup_runs.Passwd.{RanPasswd}
use Rattle.check_runs.specs.setup_runs.PasswdText.{Reports as ChangeReports}
use Rattle.check_runs.specs.setup_runs.Printing.{Printed}
use Rattle.check_runs.proofs.setup_runs_lemmas.Ending.{ends}
use Rattle.fs_model.specs.Instant.{Instant}
use Rattle.trial_runs.specs.line_io.Streams.{Stream, Untouched}
use Rattle.check_runs.specs.mount_stores.declared.error.OpenError.{OpenError}
use Rattle.check_runs.specs.mount_stores.declared.error.OpenError.TheVariants.{FaultDirectory, FaultState}
use Rattle.outside.specs.Trace.{Call}
use Rattle.outside.specs.declared.keeper.Keeper.{Ghosts as KeeperGhosts}
use Rattle.session_laws.specs.run_frame.Passwords.{PasswordUnread, PasswordsUnread}
use Rattle.session_laws.specs.Openings.{AreUncalled, IsUnread, IsUnopened}
use Rattle.run_status.specs.Statuses.{first_of}
use Rattle.session_laws.specs.run_frame.Statuses.{opening_status, closing_status, session_status}
use Rattle.run_status.specs.declared.ended.Ended.{Ended}
use Rattle.run_status.specs.declared.status.Status.{Status}
use Rattle.run_status.specs.declared.status.Status.TheVariants.{Done, LongPassword, Violation, DirectoryFault, StateFault, InputFault, OutputFault, Memory}
use Rattle.scrypt_kdf.specs.Cost.{Cost}
use Rattle.trial_runs.specs.session_lines.Driven.{EndsAs, Reported, IsUnfailed}
use Rattle.trial_runs.specs.session_lines.declared.end.End.{End}
use Rattle.trial_runs.specs.session_lines.declared.end.End.TheVariants as line_end
use Rattle.session_laws.specs.Runs.{outside_of, directory_fault, state_fault}
use Rattle.session_laws.specs.record_saver.declared.saver.SyncError.{SyncError}
use Rattle.session_laws.specs.record_saver.declared.saver.SyncError.TheVariants as sync_error
use Rattle.copy_runs.specs.shell_runs.Sessions.{Session, ComesShell, ComesGenerated, ComesCommand}
use Rattle.program_words.specs.declared.form.Form.{Form}
use Rattle.program_words.specs.declared.form.Form.TheVariants.{Trial, TrialGenerate, Create, Info, Passwd, Migrate, Shell, Generate, Command, Import, Export, ImportTimes, ExportTimes, Put, Get, Check, Survey, Look}
use Rattle.program_words.specs.Forms.{joined}
use Rattle.cryfs_shell.proofs.Checks.{state_named, output_named}
use Rattle.cryfs_shell.proofs.Migrations.{memory_named, or_done}
use Rattle.looking.specs.Runs.{RanLook}
use Rattle.cryfs_shell.specs.Clauses.{FaultsNamed, MayHide, MayHideState, StreamFaultsNamed}
use Rattle.copy_runs.specs.Copies.{Imports, Exports, ImportsTimes, ExportsTimes}
use Rattle.cryfs_shell.specs.Doing.{Did}
use Rattle.copy_runs.specs.shell_runs.Hosts.{HostSeen}
use Rattle.cryfs_shell.specs.Kinds.{is_session}
use Rattle.cryfs_shell.specs.Streams.{Streams}
use Rattle.trial_runs.specs.Runs.{Tried, GeneratedOnPlain, status_of}

-- ---- the change of a password

-- neither the change nor closing named a fault of the directory, and so of the record
abbrev NamesNoDirectory : Result Unit SyncError → Result Unit SyncError → Type 0
NamesNoDirectory change closing = directory_fault change + directory_fault closing ≡ 0

abbrev NamesNoState : Result Unit SyncError → Result Unit SyncError → Type 0
NamesNoState change closing = state_fault change + state_fault closing ≡ 0

-- the error of a change may hide one of closing
error_hides : (error : SyncError) (status : Status) → status ≡ closing_status (Err error) → MayHide (Some Passwd) status
error_hides sync_error.Memory status e = subst (MayHide (Some Passwd)) (sym e) tt
error_hides sync_error.FaultDirectory status e = subst (MayHide (Some Passwd)) (sym e) tt
error_hides sync_error.FaultState status e = subst (MayHide (Some Passwd)) (sym e) tt

error_is_no : (error : SyncError) → IsOk {T = Unit} (Err error) → ⊥
error_is_no error ok = cc

directory_is_no : DirectoryFault ≡ Memory → ⊥
directory_is_no e = cc

state_is_no : StateFault ≡ Memory → ⊥
state_is_no e = cc

module _ (output : Stream) (status : Status) where
  none_named : (change closing : Result Unit SyncError) → ChangeReports change output status → (IsOk change → IsOk closing) → ¬ MayHide (Some Passwd) status → NamesNoDirectory change closing × NamesNoState change closing
  none_named (Ok u) (Ok v) r ok shown = (refl, refl)
  none_named (Ok u) (Err error) r ok shown = absurd (error_is_no error (ok refl))
  none_named (Err error) closing r ok shown = absurd (shown (error_hides error status r.0))

  one_unnamed : (change closing : Result Unit SyncError) → ChangeReports change output status → (IsOk change → IsOk closing) → status ≡ Memory → NamesNoDirectory change closing ⊎ NamesNoState change closing
  one_unnamed (Ok u) (Ok v) r ok m = inl refl
  one_unnamed (Ok u) (Err error) r ok m = absurd (error_is_no error (ok refl))
  one_unnamed (Err sync_error.Memory) (Ok v) r ok m = inl refl
  one_unnamed (Err sync_error.Memory) (Err sync_error.Memory) r ok m = inl refl
  one_unnamed (Err sync_error.Memory) (Err sync_error.FaultDirectory) r ok m = inr refl
  one_unnamed (Err sync_error.Memory) (Err sync_error.FaultState) r ok m = inl refl
  one_unnamed (Err sync_error.FaultDirectory) closing r ok m = absurd (directory_is_no (sym r.0 ∙ m))
  one_unnamed (Err sync_error.FaultState) closing r ok m = absurd (state_is_no (sym r.0 ∙ m))

-- the lines of a survey name the faults that its status hides
hides_survey : (status : Status) → surveys.IsHiding status → MayHide (Some Survey) status
hides_survey Violation h = tt
hides_survey Memory h = tt
hides_survey OutputFault h = tt
hides_survey status h = absurd h

-- ---- the directory and the record

module _ {V : Type 0} {K : Type 0} (trace : V → Option (List Call)) (faults : V → ℕ) (G : KeeperGhosts K) (input output : Stream) (vault : V) (keeper : K) (ended : Ended V K) where
  abbrev Named : Form → Type 0
  Named form = FaultsNamed (Some form) (outside_of trace faults G vault keeper) (outside_of trace faults G ended.vault ended.keeper) ended.status

  -- each count is as it was but where its fault is named, whatever the form
  each_named : (form : Form) → (ended.status ≢ DirectoryFault → faults ended.vault ≡ faults vault) → (ended.status ≢ StateFault → G.faults ended.keeper ≡ G.faults keeper) → Named form
  each_named form directory state = record {
    directory_quiet = λ shown. directory;
    state_quiet = λ shown. state;
    memory = λ m. inl (directory (λ d. directory_is_no (sym d ∙ m)));
  }

  idle_named : (form : Form) → AreUncalled vault keeper ended → Named form
  idle_named form u = each_named form (λ d. ap faults u.same_vault) (λ s. ap G.faults u.same_keeper)

  unopened_named : (form : Form) (password : List ℕ) (error : OpenError) → IsUnopened trace faults G password vault keeper ended error → Named form
  unopened_named form password error u =
      each_named form (λ d. u.unopened.fails.vault_faults.quiet (λ e. d (u.status ∙ ap opening_status e))) (λ s. u.unopened.fails.keeper_faults.quiet (λ e. s (u.status ∙ ap opening_status e)))

  -- the status tells the error that comes
  told_error : (made : Result BlockId OpenError) (error : OpenError) → CreateReports made output ended.status → made ≡ Err error → ended.status ≡ opening_status error
  told_error made error reports is = (subst (λ (m : Result BlockId OpenError). CreateReports m output ended.status) is reports).0

  created_named : (form : Form) (cost : Cost) (block_size : ℕ) (stream rest : Chance) → RanCreate trace faults G cost block_size stream rest input output vault keeper ended → Named form
  created_named form cost block_size stream rest (inl u) = idle_named form u.uncalled
  created_named form cost block_size stream rest (inr (password, after, has, unfailed, c)) =
      each_named form (λ d. c.tells.vault_faults.quiet (λ e. d (told_error c.made FaultDirectory c.reports e))) (λ s. c.tells.keeper_faults.quiet (λ e. s (told_error c.made FaultState c.reports e)))

  told_named : Told trace faults G input output vault keeper ended → Named Info
  told_named (inl u) = idle_named Info u.uncalled
  told_named (inr (password, after, has, unfailed, inl ((error, u), unwritten))) = unopened_named Info password error u
  told_named (inr (password, after, has, unfailed, inr t)) = each_named Info (λ d. t.directory_quiet) (λ s. t.state_quiet)

  checked_named : (names : V → Option (List (List ℕ))) → RanCheck trace faults names G input output vault keeper ended → Named Check
  checked_named names (inl u) = idle_named Check u.uncalled
  checked_named names (inr (password, after, has, unfailed, inl ((error, u), unwritten))) = unopened_named Check password error u
  checked_named names (inr (password, after, has, unfailed, inr t)) =
      let directory = directory_quiet trace faults names G password output vault keeper ended t in
      record {
        directory_quiet = λ shown. directory;
        state_quiet = λ shown s. state_named trace faults names G password output vault keeper ended t (λ v. shown (subst (MayHideState (Some Check)) (sym v) tt));
        memory = λ m. inl (directory (λ d. directory_is_no (sym d ∙ m)));
      }

  surveyed_named : (names : V → Option (List (List ℕ))) → RanSurvey trace faults names G input output vault keeper ended → Named Survey
  surveyed_named names (inl u) = idle_named Survey u.uncalled
  surveyed_named names (inr (password, after, has, unfailed, inl ((error, u), unwritten))) = unopened_named Survey password error u
  surveyed_named names (inr (password, after, has, unfailed, inr t)) =
      let state = surveys.state_quiet trace faults names G password output vault keeper ended t in
      record {
        directory_quiet = λ shown d. surveys.directory_quiet trace faults names G password output vault keeper ended t d (λ h. shown (hides_survey ended.status h));
        state_quiet = λ shown s. state;
        memory = λ m. inr state;
      }

  migrated_named : RanMigrate trace faults G input output vault keeper ended → Named Migrate
  migrated_named (inl u) = idle_named Migrate u.uncalled
  migrated_named (inr (password, after, has, unfailed, inl ((error, u), unwritten))) = unopened_named Migrate password error u
  migrated_named (inr (password, after, has, unfailed, inr m)) =
      record { directory_quiet = λ shown. absurd (shown tt); state_quiet = λ shown. absurd (shown tt); memory = memory_named trace faults G password output vault keeper ended m }

  one_of : (change closing : Result Unit SyncError) → (NamesNoDirectory change closing → faults ended.vault ≡ faults vault) → (NamesNoState change closing → G.faults ended.keeper ≡ G.faults keeper)
      → NamesNoDirectory change closing ⊎ NamesNoState change closing → (faults ended.vault ≡ faults vault) ⊎ (G.faults ended.keeper ≡ G.faults keeper)
  one_of change closing directory state (inl none) = inl (directory none)
  one_of change closing directory state (inr none) = inr (state none)

  changed_named : (chance left : Chance) → RanPasswd trace faults G chance left input output vault keeper ended → Named Passwd
  changed_named chance left (inl (u, same)) = idle_named Passwd u.uncalled
  changed_named chance left (inr (old, new, has, unfailed, inl ((error, u), unwritten, same))) = unopened_named Passwd old error u
  changed_named chance left (inr (old, new, has, unfailed, inr c)) =
      let r = ends c.closing output c.told ended.status c.status c.change c.reports c.closed in
      record {
        directory_quiet = λ shown d. c.directory_quiet (none_named output ended.status c.change c.closing r c.closed shown).0;
        state_quiet = λ shown s. c.state_quiet (none_named output ended.status c.change c.closing r c.closed shown).1;
        memory = λ m. one_of c.change c.closing c.directory_quiet c.state_quiet (one_unnamed output ended.status c.change c.closing r c.closed m);
      }

-- ---- the input and the output

-- which counts are as they were, by how the lines ended
abbrev EndQuiet : End → Stream → Stream → Type 0
EndQuiet line_end.Finished input output = IsUnfailed input × IsUnfailed output
EndQuiet line_end.InputFault input output = IsUnfailed output
EndQuiet line_end.OutputFault input output = IsUnfailed input

ends_quiet : (script : Option (List ℕ)) (input output : Stream) (es : List Exchange) (end : End) → EndsAs 0 script input output es end → EndQuiet end input output
ends_quiet script input output es line_end.Finished e = (e.input_quiet, e.output_quiet)
ends_quiet script input output es line_end.InputFault e = e.output_quiet
ends_quiet script input output es line_end.OutputFault e = e.input_quiet

reported_quiet : (input output : Stream) (text : List ℕ) (end : End) → IsUnfailed input → Reported output text end → EndQuiet end input output
reported_quiet input output text line_end.Finished unfailed r = (unfailed, r.1)
reported_quiet input output text line_end.InputFault unfailed r = absurd r
reported_quiet input output text line_end.OutputFault unfailed r = unfailed

put_by : (path : HostPath) (put : Result Totals Stop) (kept : Option Answer) (input output : Stream) (end : End) (own : Status) → InputBy 0 input put → IsPutTold put path kept output end own → EndQuiet end input output
put_by path (Ok totals) kept input output end own used told = reported_quiet input output _ end used.1 told.written
put_by path (Err stop.Memory) kept input output end own used told = reported_quiet input output _ end used told.written
put_by path (Err stop.Host) kept input output end own used told = subst (λ z. EndQuiet z input output) (sym told.0.0) told.1.1
put_by path (Err stop.Stopped) kept input output end own used told = reported_quiet input output _ end used told.written
put_by path (Err (stop.Refused e)) kept input output end own used told = reported_quiet input output _ end used told.written

put_quiet : (path : HostPath) (script : Option (List ℕ)) (input output : Stream) (end : End) (own : Status) (es : List Exchange) → IsPutSession path 0 script input output end own es → EndQuiet end input output
put_quiet path script input output end own es s = put_by path s.result (kept_after None es) input output end own s.used s.told

get_by : (path : HostPath) (qs : List Question) (got : Result (Unit {0}) Stop) (kept : Option Answer) (input output : Stream) (end : End) (own : Status) → IsUnfailed input → IsGet path qs output got → IsGetEnd got kept end own → EndQuiet end input output
get_by path qs (Ok x) kept input output end own unfailed is ends = subst (λ z. EndQuiet z input output) (sym ends.0) (unfailed, is.ends.1.1.1)
get_by path qs (Err stop.Memory) kept input output end own unfailed is ends = subst (λ z. EndQuiet z input output) (sym ends.0) (unfailed, is.ends.1.1)
get_by path qs (Err stop.Host) kept input output end own unfailed is ends = subst (λ z. EndQuiet z input output) (sym ends.0) unfailed
get_by path qs (Err stop.Stopped) kept input output end own unfailed is ends = subst (λ z. EndQuiet z input output) (sym ends.0) (unfailed, is.ends.1.1.1)
get_by path qs (Err (stop.Refused e)) kept input output end own unfailed is ends = subst (λ z. EndQuiet z input output) (sym ends.0) (unfailed, is.ends.1.1)

get_quiet : (path : HostPath) (input output : Stream) (end : End) (own : Status) (es : List Exchange) → IsGetSession path input output end own es → EndQuiet end input output
get_quiet path input output end own es s = get_by path s.qs s.result (kept_after None es) input output end own s.unfailed s.is s.ends

printed_quiet : (output : Stream) (text : List ℕ) (status : Status) → Printed output text status → status ≢ OutputFault → IsUnfailed output
printed_quiet output text Done p o = p.1
printed_quiet output text OutputFault p o = absurd (o refl)
printed_quiet output text status p o = absurd p

one_quiet : (input : Stream) (status : Status) → PasswordUnread input status → status ≢ InputFault → status ≢ LongPassword → IsUnfailed input
one_quiet input LongPassword u i l = absurd (l refl)
one_quiet input InputFault u i l = absurd (i refl)
one_quiet input Memory u i l = u.1
one_quiet input status u i l = absurd u

both_quiet : (input : Stream) (status : Status) → PasswordsUnread input status → status ≢ InputFault → status ≢ LongPassword → IsUnfailed input
both_quiet input LongPassword u i l = absurd (l refl)
both_quiet input InputFault u i l = absurd (i refl)
both_quiet input Memory u i l = u.1
both_quiet input status u i l = absurd u

made_quiet : (output : Stream) (made : Result BlockId OpenError) (status : Status) → CreateReports made output status → status ≢ OutputFault → IsUnfailed output
made_quiet output (Ok id) status r o = printed_quiet output _ status r o
made_quiet output (Err error) status r o = r.1.1

change_quiet : (output : Stream) (change : Result Unit SyncError) (status : Status) → ChangeReports change output status → status ≢ OutputFault → IsUnfailed output
change_quiet output (Ok u) status r o = printed_quiet output _ status r o
change_quiet output (Err error) status r o = r.1.1

module _ (input output : Stream) where
  -- neither failed
  neither : (status : Status) → IsUnfailed input → IsUnfailed output → StreamFaultsNamed input output status
  neither status i o = record { input_quiet = λ _ _ _. i; output_quiet = λ _ _. o }

  ended_named : (end : End) (status : Status) → status ≡ status_of end → EndQuiet end input output → StreamFaultsNamed input output status
  ended_named line_end.Finished status e q = neither status q.0 q.1
  ended_named line_end.InputFault status e q = record { input_quiet = λ i l v. absurd (i e); output_quiet = λ o v. q }
  ended_named line_end.OutputFault status e q = record { input_quiet = λ i l v. q; output_quiet = λ o v. absurd (o e) }

  served_named : (b : Bool) (end : End) (closing : Result Unit SyncError) (own status : Status) → status ≡ first_of (session_status b end closing) own → EndQuiet end input output → StreamFaultsNamed input output status
  served_named true end closing own status e q = record { input_quiet = λ i l v. absurd (v e); output_quiet = λ o v. absurd (v e) }
  served_named false line_end.Finished closing own status e q = neither status q.0 q.1
  served_named false line_end.InputFault closing own status e q = record { input_quiet = λ i l v. absurd (i e); output_quiet = λ o v. q }
  served_named false line_end.OutputFault closing own status e q = record { input_quiet = λ i l v. q; output_quiet = λ o v. absurd (o e) }

  tried_named : (now : Instant) (status : Status) → Tried now input output status → StreamFaultsNamed input output status
  tried_named now status (inl none) = neither status none.1.1 none.2.1
  tried_named now status (inr (end, e, es, trees, trial)) = ended_named end status e (ends_quiet input.old input output es end trial.ends)

  generated_named : (now : Instant) (count : ℕ) (status : Status) → Untouched input → GeneratedOnPlain now count output status → StreamFaultsNamed input output status
  generated_named now count status untouched (inl none) = neither status untouched.1 none.1.1
  generated_named now count status untouched (inr (end, e, answers, trees, g)) = ended_named end status e (reported_quiet input output _ end untouched.1 g.written)

  module _ {V : Type 0} {K : Type 0} (trace : V → Option (List Call)) (faults : V → ℕ) (G : KeeperGhosts K) (vault : V) (keeper : K) (ended : Ended V K) where
    abbrev StreamsNamed : Type 0
    StreamsNamed = StreamFaultsNamed input output ended.status

    unread_one : IsUnread (PasswordUnread input) output vault keeper ended → StreamsNamed
    unread_one u = record { input_quiet = λ i l v. one_quiet input ended.status u.cause i l; output_quiet = λ o v. u.unwritten.1 }

    created_streams : (cost : Cost) (block_size : ℕ) (stream rest : Chance) → RanCreate trace faults G cost block_size stream rest input output vault keeper ended → StreamsNamed
    created_streams cost block_size stream rest (inl u) = unread_one u
    created_streams cost block_size stream rest (inr (password, after, has, unfailed, c)) = record { input_quiet = λ i l v. unfailed; output_quiet = λ o v. made_quiet output c.made ended.status c.reports o }

    told_streams : Told trace faults G input output vault keeper ended → StreamsNamed
    told_streams (inl u) = unread_one u
    told_streams (inr (password, after, has, unfailed, inl ((error, u), unwritten))) = neither ended.status unfailed unwritten.1
    told_streams (inr (password, after, has, unfailed, inr t)) = record { input_quiet = λ i l v. unfailed; output_quiet = λ o v. printed_quiet output _ ended.status t.printed o }

    changed_streams : (chance left : Chance) → RanPasswd trace faults G chance left input output vault keeper ended → StreamsNamed
    changed_streams chance left (inl (u, same)) = record { input_quiet = λ i l v. both_quiet input ended.status u.cause i l; output_quiet = λ o v. u.unwritten.1 }
    changed_streams chance left (inr (old, new, has, unfailed, inl ((error, u), unwritten, same))) = neither ended.status unfailed unwritten.1
    changed_streams chance left (inr (old, new, has, unfailed, inr c)) = record {
      input_quiet = λ i l v. unfailed;
      output_quiet = λ o v. change_quiet output c.change ended.status (ends c.closing output c.told ended.status c.status c.change c.reports c.closed) o;
    }

    checked_streams : (names : V → Option (List (List ℕ))) → RanCheck trace faults names G input output vault keeper ended → StreamsNamed
    checked_streams names (inl u) = unread_one u
    checked_streams names (inr (password, after, has, unfailed, inl ((error, u), unwritten))) = neither ended.status unfailed unwritten.1
    checked_streams names (inr (password, after, has, unfailed, inr t)) = record { input_quiet = λ i l v. unfailed; output_quiet = output_named trace faults names G password output vault keeper ended t }

    surveyed_streams : (names : V → Option (List (List ℕ))) → RanSurvey trace faults names G input output vault keeper ended → StreamsNamed
    surveyed_streams names (inl u) = unread_one u
    surveyed_streams names (inr (password, after, has, unfailed, inl ((error, u), unwritten))) = neither ended.status unfailed unwritten.1
    surveyed_streams names (inr (password, after, has, unfailed, inr t)) =
        record { input_quiet = λ i l v. unfailed; output_quiet = surveys.survey_output (names t.x.vault) t.x.verdict t.x.ungiven.items t.x.end output ended.status t.told }

    migrated_streams : RanMigrate trace faults G input output vault keeper ended → StreamsNamed
    migrated_streams (inl u) = unread_one u
    migrated_streams (inr (password, after, has, unfailed, inl ((error, u), unwritten))) = neither ended.status unfailed unwritten.1
    migrated_streams (inr (password, after, has, unfailed, inr m)) =
        let status = session_status (is_violation (told m.migration)) m.end m.closing in
        served_named (is_violation (told m.migration)) m.end m.closing Done ended.status (m.status ∙ or_done status) (reported_quiet input output _ m.end unfailed m.reported)

    looked_streams : (now : Instant) (line : List ℕ) → RanLook trace faults now line input output vault keeper ended → StreamsNamed
    looked_streams now line (inl u) = unread_one u
    looked_streams now line (inr (password, after, has, unfailed, inl vain)) = neither ended.status unfailed vain.unwritten.1
    looked_streams now line (inr (password, after, has, unfailed, inr at)) =
        let a = at.answered in
        let status = session_status (is_violation a.answer) a.end (Ok tt) in
        served_named (is_violation a.answer) a.end (Ok tt) Done ended.status (a.status_is ∙ or_done status) (reported_quiet input output _ a.end unfailed a.written)

    session_streams : (Came : Option (List ℕ) → End → Status → List Exchange → Type 0) → ((script : Option (List ℕ)) (end : End) (own : Status) (es : List Exchange) → Came script end own es → EndQuiet end input output)
        → Session trace faults G Came input output vault keeper ended → StreamsNamed
    session_streams Came quiet (inl u) = unread_one u
    session_streams Came quiet (inr (password, script, has, inl ((error, u), unfailed, unwritten))) = neither ended.status unfailed unwritten.1
    session_streams Came quiet (inr (password, script, has, inr s)) = served_named (violated s.es) s.end s.closing s.own ended.status s.status (quiet script s.end s.own s.es s.came)

-- ---- by its form

module _ {V : Type 0} {K : Type 0} (trace : V → Option (List Call)) (faults : V → ℕ) (names : V → Option (List (List ℕ))) (G : KeeperGhosts K) (words : List (List ℕ)) (now : Instant) (s : Streams) (vault : V) (keeper : K) (ended : Ended V K) where
  abbrev input : Stream
  input = s.input

  abbrev output : Stream
  output = s.output

  abbrev host : HostSeen
  host = s.host

  abbrev chance : Chance
  chance = s.chance

  abbrev left : Chance
  left = s.left

  abbrev Doing : Form → Type 0
  Doing form = Did trace faults names G words now s vault keeper ended (Some form)

  pub doing_named : (form : Form) → is_session (Some form) ≡ false → Doing form → FaultsNamed (Some form) (outside_of trace faults G vault keeper) (outside_of trace faults G ended.vault ended.keeper) ended.status
  doing_named Trial e d = idle_named trace faults G input output vault keeper ended Trial d.1
  doing_named (TrialGenerate count) e d = idle_named trace faults G input output vault keeper ended (TrialGenerate count) d.2
  doing_named (Create options) e d = created_named trace faults G input output vault keeper ended (Create options) options.params options.block_size chance left d
  doing_named Info e d = told_named trace faults G input output vault keeper ended d
  doing_named Migrate e d = migrated_named trace faults G input output vault keeper ended d
  doing_named Passwd e d = changed_named trace faults G input output vault keeper ended chance left d
  doing_named Shell e d = absurd (cc)
  doing_named (Generate count) e d = absurd (cc)
  doing_named Command e d = absurd (cc)
  doing_named (Import path) e d = absurd (cc)
  doing_named (Export path) e d = absurd (cc)
  doing_named (ImportTimes path) e d = absurd (cc)
  doing_named (ExportTimes path) e d = absurd (cc)
  doing_named (Put path) e d = absurd (cc)
  doing_named (Get path) e d = absurd (cc)
  doing_named Check e d = checked_named trace faults G input output vault keeper ended names d
  doing_named Survey e d = surveyed_named trace faults G input output vault keeper ended names d
  doing_named Look e d = record { directory_quiet = λ shown. absurd (shown tt); state_quiet = λ shown. absurd (shown tt); memory = λ m. inr (ap G.faults d.same_keeper) }

  pub doing_streams : (form : Form) → Doing form → StreamFaultsNamed input output ended.status
  doing_streams Trial d = tried_named input output now ended.status d.0
  doing_streams (TrialGenerate count) d = generated_named input output now count ended.status d.1 d.0
  doing_streams (Create options) d = created_streams input output trace faults G vault keeper ended options.params options.block_size chance left d
  doing_streams Info d = told_streams input output trace faults G vault keeper ended d
  doing_streams Migrate d = migrated_streams input output trace faults G vault keeper ended d
  doing_streams Passwd d = changed_streams input output trace faults G vault keeper ended chance left d
  doing_streams Shell d = session_streams input output trace faults G vault keeper ended (ComesShell now input output) (λ script end own es came. ends_quiet script input output es end came.1.0) d
  doing_streams (Generate count) d = session_streams input output trace faults G vault keeper ended (ComesGenerated now count input output) (λ script end own es came. reported_quiet input output _ end came.0.1 came.0.0.3) d
  doing_streams Command d =
      session_streams input output trace faults G vault keeper ended (ComesCommand now (joined words) input output) (λ script end own es came. reported_quiet input output _ end came.0.1 came.0.0.2) d
  doing_streams (Import path) d =
      session_streams input output trace faults G vault keeper ended (Imports now path host input output) (λ script end own es came. reported_quiet input output _ end came.1.1.unfailed came.1.1.told.written) d.0
  doing_streams (Export path) d =
      session_streams input output trace faults G vault keeper ended (Exports now path host input output) (λ script end own es came. reported_quiet input output _ end came.1.unfailed came.1.told.written) d.0
  doing_streams (ImportTimes path) d =
      session_streams input output trace faults G vault keeper ended (ImportsTimes now path host input output) (λ script end own es came. reported_quiet input output _ end came.1.1.unfailed came.1.1.told.written) d.0
  doing_streams (ExportTimes path) d =
      session_streams input output trace faults G vault keeper ended (ExportsTimes now path host input output) (λ script end own es came. reported_quiet input output _ end came.1.unfailed came.1.told.written) d.0
  doing_streams (Put path) d =
      session_streams input output trace faults G vault keeper ended (ComesPut now path input output) (λ script end own es came. put_quiet path script input output end own es came.1) d
  doing_streams (Get path) d =
      session_streams input output trace faults G vault keeper ended (ComesGet now path input output) (λ script end own es came. get_quiet path input output end own es came.1) d
  doing_streams Check d = checked_streams input output trace faults G vault keeper ended names d
  doing_streams Survey d = surveyed_streams input output trace faults G vault keeper ended names d
  doing_streams Look d = looked_streams input output trace faults G vault keeper ended now _ d.ran
