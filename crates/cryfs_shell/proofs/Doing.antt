-- What holds of each run, by its form.
use Rattle.std.proofs.Common.{◌≡◌, ◌≢◌, ℕ, true, false, List, sym, ◌∙◌}
use Rattle.std.specs.declared.option.Option.{Option}
use Rattle.std.specs.declared.option.Option.TheVariants.{Some}
use Rattle.rand_core.specs.Stream.{Stream as Chance}
use Rattle.trial_runs.specs.answers.Sessions.{Exchange}
use Rattle.fs_model.specs.Instant.{Instant}
use Rattle.session_laws.specs.block_versions.Standing.{records}
use Rattle.trial_runs.specs.line_io.Streams.{Stream}
use Rattle.check_runs.specs.mount_core.Standing.{IsKeptMarked}
use Rattle.outside.specs.Causes.{RoseBy}
use Rattle.outside.specs.Trace.{Call}
use Rattle.outside.specs.declared.keeper.Keeper.{Ghosts as KeeperGhosts}
use Rattle.session_laws.specs.Openings.{AreUncalled}
use Rattle.run_status.specs.declared.ended.Ended.{Ended}
use Rattle.run_status.specs.declared.status.Status.{Status}
use Rattle.run_status.specs.declared.status.Status.TheVariants.{Done, Usage, LongPassword, Violation, HostFault}
use Rattle.trial_runs.specs.session_lines.declared.end.End.{End}
use Rattle.session_laws.specs.Runs.{outside_of}
use Rattle.copy_runs.specs.copy_file.Coming.{ComesPut, ComesGet}
use Rattle.copy_runs.specs.host_folder.Folders.{HostPath}
use Rattle.copy_runs.specs.shell_runs.Sessions.{ComesShell, ComesGenerated, ComesCommand}
use Rattle.program_words.specs.declared.form.Form.{Form}
use Rattle.program_words.specs.declared.form.Form.TheVariants.{Trial, TrialGenerate, Create, Info, Passwd, Migrate, Shell, Generate, Command, Import, Export, ImportTimes, ExportTimes, Put, Get, Check, Survey, Look}
use Rattle.program_words.specs.Forms.{joined}
use Rattle.copy_runs.proofs.copy_sessions_lemmas.Imported.{told_host as copy_host}
use Rattle.cryfs_shell.specs.Clauses.{IsRefusedRun, NoFalseAlarm, KeepsTree, FaultsHappened, IsEmptied}
use Rattle.copy_runs.specs.Copies.{Imports, Exports, ImportsTimes, ExportsTimes}
use Rattle.cryfs_shell.specs.Doing.{Did, IsCaused}
use Rattle.copy_runs.specs.shell_runs.Hosts.{HostSeen}
use Rattle.cryfs_shell.specs.Kinds.{is_session, is_look, opens, heeds_mark}
use Rattle.cryfs_shell.specs.Streams.{Streams}
use Rattle.copy_runs.proofs.copy_file_lemmas.Sessions.{put_unhosted, get_unhosted}
use Rattle.cryfs_shell.proofs.Files.{put_cause, get_cause}
use Rattle.cryfs_shell.proofs.Statuses.{EndCause}
use Rattle.cryfs_shell.proofs.Sessions.{session_faults, session_refusal, session_alarm, session_keeps, session_emptied, session_uncalled, session_usage, session_host}
use Rattle.cryfs_shell.proofs.Setups.{created_faults, created_uncalled, created_usage, created_alarm, created_host, told_faults, told_refusal, told_alarm, told_keeps, told_uncalled, told_usage, told_host, changed_faults, changed_refusal, changed_alarm, changed_keeps, changed_uncalled, changed_usage, changed_host}
use Rattle.cryfs_shell.proofs.Checks.{checked_faults, checked_refusal, checked_alarm, checked_keeps, checked_uncalled, checked_usage, checked_host}
use Rattle.cryfs_shell.proofs.Surveys.{surveyed_faults, surveyed_refusal, surveyed_alarm, surveyed_keeps, surveyed_uncalled, surveyed_usage, surveyed_host}
use Rattle.cryfs_shell.proofs.Migrations.{migrated_faults, migrated_refusal, migrated_alarm, migrated_keeps, migrated_uncalled, migrated_usage, migrated_host}
use Rattle.cryfs_shell.proofs.Looks.{looked_faults, looked_keeps, looked_uncalled, looked_usage, looked_host}
use Rattle.cryfs_shell.proofs.TrialEnds.{ends_cause, reported_cause, tried_end, generated_end, trial_is_no, trial_faults}

-- the form that was asked for is one
pub the_form : (asked : Option Form) (form other : Form) → asked ≡ Some form → asked ≡ Some other → form ≡ other
the_form asked form other e f = some_is form other (sym e ∙ f)
  where
    some_is : (form other : Form) → ◌≡◌ {A = Option Form} (Some form) (Some other) → form ≡ other
    some_is form other h = cc

host_undone : HostFault ≡ Done → ⊥
host_undone e = cc

module _ {V : Type 0} {K : Type 0} (trace : V → Option (List Call)) (faults : V → ℕ) (names : V → Option (List (List ℕ))) (G : KeeperGhosts K) (words : List (List ℕ)) (now : Instant) (s : Streams) (vault : V) (keeper : K) (ended : Ended V K) where
  abbrev input : Stream
  input = s.input

  abbrev output : Stream
  output = s.output

  abbrev host : HostSeen
  host = s.host

  abbrev chance : Chance
  chance = s.chance

  abbrev left : Chance
  left = s.left

  shell_causes : (script : Option (List ℕ)) (end : End) (own : Status) (es : List Exchange) → ComesShell now input output script end own es → EndCause end input output
  shell_causes script end own es came = ends_cause script input output es end came.1.0

  generated_causes : (count : ℕ) (script : Option (List ℕ)) (end : End) (own : Status) (es : List Exchange) → ComesGenerated now count input output script end own es → EndCause end input output
  generated_causes count script end own es came = reported_cause input output _ end came.0.0.3

  command_causes : (script : Option (List ℕ)) (end : End) (own : Status) (es : List Exchange) → ComesCommand now (joined words) input output script end own es → EndCause end input output
  command_causes script end own es came = reported_cause input output _ end came.0.0.2

  import_causes : (path : HostPath) (script : Option (List ℕ)) (end : End) (own : Status) (es : List Exchange) → Imports now path host input output script end own es → EndCause end input output
  import_causes path script end own es (same, came) = reported_cause input output _ end came.1.told.written

  export_causes : (path : HostPath) (script : Option (List ℕ)) (end : End) (own : Status) (es : List Exchange) → Exports now path host input output script end own es → EndCause end input output
  export_causes path script end own es came = reported_cause input output _ end came.1.told.written

  import_times_causes : (path : HostPath) (script : Option (List ℕ)) (end : End) (own : Status) (es : List Exchange) → ImportsTimes now path host input output script end own es → EndCause end input output
  import_times_causes path script end own es (same, came) = reported_cause input output _ end came.1.told.written

  export_times_causes : (path : HostPath) (script : Option (List ℕ)) (end : End) (own : Status) (es : List Exchange) → ExportsTimes now path host input output script end own es → EndCause end input output
  export_times_causes path script end own es came = reported_cause input output _ end came.1.told.written

  put_causes : (path : HostPath) (script : Option (List ℕ)) (end : End) (own : Status) (es : List Exchange) → ComesPut now path input output script end own es → EndCause end input output
  put_causes path script end own es came = put_cause path script input output end own es came.1

  get_causes : (path : HostPath) (script : Option (List ℕ)) (end : End) (own : Status) (es : List Exchange) → ComesGet now path input output script end own es → EndCause end input output
  get_causes path script end own es came = get_cause path input output end own es came.1

  abbrev Doing : Form → Type 0
  Doing form = Did trace faults names G words now s vault keeper ended (Some form)

  abbrev Caused : Form → Type 0
  Caused form = IsCaused (outside_of trace faults G vault keeper) (outside_of trace faults G ended.vault ended.keeper) ended.status form

  pub doing_faults : (form : Form) → Doing form → Caused form → FaultsHappened input output (outside_of trace faults G vault keeper) (outside_of trace faults G ended.vault ended.keeper) ended.status
  doing_faults Trial d k = trial_faults trace faults G input output vault keeper ended d.1 (tried_end now input output ended.status d.0)
  doing_faults (TrialGenerate count) d k = trial_faults trace faults G input output vault keeper ended d.2 (generated_end now count input output ended.status d.0)
  doing_faults (Create options) d k = created_faults trace faults G input output vault keeper ended k options.params options.block_size chance left d
  doing_faults Info d k = told_faults trace faults G input output vault keeper ended k d
  doing_faults Passwd d k = changed_faults trace faults G input output vault keeper ended k chance left d
  doing_faults Migrate d k = migrated_faults trace faults G input output vault keeper ended d
  doing_faults Shell d k = session_faults trace faults G input output vault keeper ended (ComesShell now input output) shell_causes d
  doing_faults (Generate count) d k = session_faults trace faults G input output vault keeper ended (ComesGenerated now count input output) (generated_causes count) d
  doing_faults Command d k = session_faults trace faults G input output vault keeper ended (ComesCommand now (joined words) input output) command_causes d
  doing_faults (Import path) d k = session_faults trace faults G input output vault keeper ended (Imports now path host input output) (import_causes path) d.0
  doing_faults (Export path) d k = session_faults trace faults G input output vault keeper ended (Exports now path host input output) (export_causes path) d.0
  doing_faults (ImportTimes path) d k = session_faults trace faults G input output vault keeper ended (ImportsTimes now path host input output) (import_times_causes path) d.0
  doing_faults (ExportTimes path) d k = session_faults trace faults G input output vault keeper ended (ExportsTimes now path host input output) (export_times_causes path) d.0
  doing_faults (Put path) d k = session_faults trace faults G input output vault keeper ended (ComesPut now path input output) (put_causes path) d
  doing_faults (Get path) d k = session_faults trace faults G input output vault keeper ended (ComesGet now path input output) (get_causes path) d
  doing_faults Check d k = checked_faults trace faults names G input output vault keeper ended k d
  doing_faults Survey d k = surveyed_faults trace faults names G input output vault keeper ended k d
  doing_faults Look d k = looked_faults trace faults G vault keeper ended words now s k d

  pub doing_refusal : (form : Form) → heeds_mark (Some form) ≡ true → Doing form → Caused form → IsKeptMarked records (G.kept keeper) → IsRefusedRun G.kept output vault keeper ended
  doing_refusal Trial e d k marked = absurd (cc)
  doing_refusal (TrialGenerate count) e d k marked = absurd (cc)
  doing_refusal (Create options) e d k marked = absurd (cc)
  doing_refusal Info e d k marked = told_refusal trace faults G input output vault keeper ended k d marked
  doing_refusal Passwd e d k marked = changed_refusal trace faults G input output vault keeper ended k chance left d marked
  doing_refusal Migrate e d k marked = migrated_refusal trace faults G input output vault keeper ended d marked
  doing_refusal Shell e d k marked = session_refusal trace faults G input output vault keeper ended (ComesShell now input output) shell_causes d marked
  doing_refusal (Generate count) e d k marked = session_refusal trace faults G input output vault keeper ended (ComesGenerated now count input output) (generated_causes count) d marked
  doing_refusal Command e d k marked = session_refusal trace faults G input output vault keeper ended (ComesCommand now (joined words) input output) command_causes d marked
  doing_refusal (Import path) e d k marked = session_refusal trace faults G input output vault keeper ended (Imports now path host input output) (import_causes path) d.0 marked
  doing_refusal (Export path) e d k marked = session_refusal trace faults G input output vault keeper ended (Exports now path host input output) (export_causes path) d.0 marked
  doing_refusal (ImportTimes path) e d k marked = session_refusal trace faults G input output vault keeper ended (ImportsTimes now path host input output) (import_times_causes path) d.0 marked
  doing_refusal (ExportTimes path) e d k marked = session_refusal trace faults G input output vault keeper ended (ExportsTimes now path host input output) (export_times_causes path) d.0 marked
  doing_refusal (Put path) e d k marked = session_refusal trace faults G input output vault keeper ended (ComesPut now path input output) (put_causes path) d marked
  doing_refusal (Get path) e d k marked = session_refusal trace faults G input output vault keeper ended (ComesGet now path input output) (get_causes path) d marked
  doing_refusal Check e d k marked = checked_refusal trace faults names G input output vault keeper ended k d marked
  doing_refusal Survey e d k marked = surveyed_refusal trace faults names G input output vault keeper ended k d marked
  doing_refusal Look e d k marked = absurd (cc)

  pub doing_alarm : (form : Form) → is_look (Some form) ≡ false → Doing form → Caused form → NoFalseAlarm input (outside_of trace faults G vault keeper) (outside_of trace faults G ended.vault ended.keeper) ended.status
  doing_alarm Trial q d k bytes c first f honest e = trial_is_no input output ended.status Violation (tried_end now input output ended.status d.0) e (λ h. h)
  doing_alarm (TrialGenerate count) q d k bytes c first f honest e = trial_is_no input output ended.status Violation (generated_end now count input output ended.status d.0) e (λ h. h)
  doing_alarm (Create options) q d k bytes c first f honest e = created_alarm trace faults G input output vault keeper ended k options.params options.block_size chance left d e
  doing_alarm Info q d k bytes c first f honest e = told_alarm trace faults G input output vault keeper ended k d bytes c first f honest e
  doing_alarm Passwd q d k bytes c first f honest e = changed_alarm trace faults G input output vault keeper ended k chance left d bytes c first f honest e
  doing_alarm Migrate q d k bytes c first f honest e = migrated_alarm trace faults G input output vault keeper ended d bytes c first f honest e
  doing_alarm Shell q d k bytes c first f honest e = session_alarm trace faults G input output vault keeper ended (ComesShell now input output) shell_causes d bytes c first f honest e
  doing_alarm (Generate count) q d k bytes c first f honest e = session_alarm trace faults G input output vault keeper ended (ComesGenerated now count input output) (generated_causes count) d bytes c first f honest e
  doing_alarm Command q d k bytes c first f honest e = session_alarm trace faults G input output vault keeper ended (ComesCommand now (joined words) input output) command_causes d bytes c first f honest e
  doing_alarm (Import path) q d k bytes c first f honest e = session_alarm trace faults G input output vault keeper ended (Imports now path host input output) (import_causes path) d.0 bytes c first f honest e
  doing_alarm (Export path) q d k bytes c first f honest e = session_alarm trace faults G input output vault keeper ended (Exports now path host input output) (export_causes path) d.0 bytes c first f honest e
  doing_alarm (ImportTimes path) q d k bytes c first f honest e = session_alarm trace faults G input output vault keeper ended (ImportsTimes now path host input output) (import_times_causes path) d.0 bytes c first f honest e
  doing_alarm (ExportTimes path) q d k bytes c first f honest e = session_alarm trace faults G input output vault keeper ended (ExportsTimes now path host input output) (export_times_causes path) d.0 bytes c first f honest e
  doing_alarm (Put path) q d k bytes c first f honest e = session_alarm trace faults G input output vault keeper ended (ComesPut now path input output) (put_causes path) d bytes c first f honest e
  doing_alarm (Get path) q d k bytes c first f honest e = session_alarm trace faults G input output vault keeper ended (ComesGet now path input output) (get_causes path) d bytes c first f honest e
  doing_alarm Check q d k bytes c first f honest e = checked_alarm trace faults names G input output vault keeper ended k d bytes c first f honest e
  doing_alarm Survey q d k bytes c first f honest e = surveyed_alarm trace faults names G input output vault keeper ended k d bytes c first f honest e
  doing_alarm Look q d k bytes c first f honest e = absurd (cc)

  pub doing_keeps : (form : Form) → opens (Some form) ≡ true → Doing form → Caused form → KeepsTree input (outside_of trace faults G vault keeper) (outside_of trace faults G ended.vault ended.keeper)
  doing_keeps Trial e d k bytes c first f = absurd (cc)
  doing_keeps (TrialGenerate count) e d k bytes c first f = absurd (cc)
  doing_keeps (Create options) e d k bytes c first f = absurd (cc)
  doing_keeps Info e d k bytes c first f = told_keeps trace faults G input output vault keeper ended k d bytes c first f
  doing_keeps Passwd e d k bytes c first f = changed_keeps trace faults G input output vault keeper ended k chance left d bytes c first f
  doing_keeps Migrate e d k bytes c first f = migrated_keeps trace faults G input output vault keeper ended d bytes c first f
  doing_keeps Shell e d k bytes c first f = session_keeps trace faults G input output vault keeper ended (ComesShell now input output) shell_causes d bytes c first f
  doing_keeps (Generate count) e d k bytes c first f = session_keeps trace faults G input output vault keeper ended (ComesGenerated now count input output) (generated_causes count) d bytes c first f
  doing_keeps Command e d k bytes c first f = session_keeps trace faults G input output vault keeper ended (ComesCommand now (joined words) input output) command_causes d bytes c first f
  doing_keeps (Import path) e d k bytes c first f = session_keeps trace faults G input output vault keeper ended (Imports now path host input output) (import_causes path) d.0 bytes c first f
  doing_keeps (Export path) e d k bytes c first f = session_keeps trace faults G input output vault keeper ended (Exports now path host input output) (export_causes path) d.0 bytes c first f
  doing_keeps (ImportTimes path) e d k bytes c first f = session_keeps trace faults G input output vault keeper ended (ImportsTimes now path host input output) (import_times_causes path) d.0 bytes c first f
  doing_keeps (ExportTimes path) e d k bytes c first f = session_keeps trace faults G input output vault keeper ended (ExportsTimes now path host input output) (export_times_causes path) d.0 bytes c first f
  doing_keeps (Put path) e d k bytes c first f = session_keeps trace faults G input output vault keeper ended (ComesPut now path input output) (put_causes path) d bytes c first f
  doing_keeps (Get path) e d k bytes c first f = session_keeps trace faults G input output vault keeper ended (ComesGet now path input output) (get_causes path) d bytes c first f
  doing_keeps Check e d k bytes c first f = checked_keeps trace faults names G input output vault keeper ended k d bytes c first f
  doing_keeps Survey e d k bytes c first f = surveyed_keeps trace faults names G input output vault keeper ended k d bytes c first f
  doing_keeps Look e d k bytes c first f = looked_keeps trace faults G vault keeper ended words now s d bytes c first f

  pub doing_emptied : (form : Form) → is_session (Some form) ≡ true → Doing form → ended.status ≡ Done → IsEmptied (outside_of trace faults G ended.vault ended.keeper)
  doing_emptied Trial q d e = absurd (cc)
  doing_emptied (TrialGenerate count) q d e = absurd (cc)
  doing_emptied (Create options) q d e = absurd (cc)
  doing_emptied Info q d e = absurd (cc)
  doing_emptied Passwd q d e = absurd (cc)
  doing_emptied Migrate q d e = absurd (cc)
  doing_emptied Shell q d e = session_emptied trace faults G input output vault keeper ended (ComesShell now input output) shell_causes d e
  doing_emptied (Generate count) q d e = session_emptied trace faults G input output vault keeper ended (ComesGenerated now count input output) (generated_causes count) d e
  doing_emptied Command q d e = session_emptied trace faults G input output vault keeper ended (ComesCommand now (joined words) input output) command_causes d e
  doing_emptied (Import path) q d e = session_emptied trace faults G input output vault keeper ended (Imports now path host input output) (import_causes path) d.0 e
  doing_emptied (Export path) q d e = session_emptied trace faults G input output vault keeper ended (Exports now path host input output) (export_causes path) d.0 e
  doing_emptied (ImportTimes path) q d e = session_emptied trace faults G input output vault keeper ended (ImportsTimes now path host input output) (import_times_causes path) d.0 e
  doing_emptied (ExportTimes path) q d e = session_emptied trace faults G input output vault keeper ended (ExportsTimes now path host input output) (export_times_causes path) d.0 e
  doing_emptied (Put path) q d e = session_emptied trace faults G input output vault keeper ended (ComesPut now path input output) (put_causes path) d e
  doing_emptied (Get path) q d e = session_emptied trace faults G input output vault keeper ended (ComesGet now path input output) (get_causes path) d e
  doing_emptied Check q d e = absurd (cc)
  doing_emptied Survey q d e = absurd (cc)
  doing_emptied Look q d e = absurd (cc)

  pub doing_uncalled : (form : Form) → Doing form → Caused form → ended.status ≡ LongPassword → AreUncalled vault keeper ended
  doing_uncalled Trial d k e = d.1
  doing_uncalled (TrialGenerate count) d k e = d.2
  doing_uncalled (Create options) d k e = created_uncalled trace faults G input output vault keeper ended k options.params options.block_size chance left d e
  doing_uncalled Info d k e = told_uncalled trace faults G input output vault keeper ended k d e
  doing_uncalled Passwd d k e = changed_uncalled trace faults G input output vault keeper ended k chance left d e
  doing_uncalled Migrate d k e = migrated_uncalled trace faults G input output vault keeper ended d e
  doing_uncalled Shell d k e = session_uncalled trace faults G input output vault keeper ended (ComesShell now input output) shell_causes d e
  doing_uncalled (Generate count) d k e = session_uncalled trace faults G input output vault keeper ended (ComesGenerated now count input output) (generated_causes count) d e
  doing_uncalled Command d k e = session_uncalled trace faults G input output vault keeper ended (ComesCommand now (joined words) input output) command_causes d e
  doing_uncalled (Import path) d k e = session_uncalled trace faults G input output vault keeper ended (Imports now path host input output) (import_causes path) d.0 e
  doing_uncalled (Export path) d k e = session_uncalled trace faults G input output vault keeper ended (Exports now path host input output) (export_causes path) d.0 e
  doing_uncalled (ImportTimes path) d k e = session_uncalled trace faults G input output vault keeper ended (ImportsTimes now path host input output) (import_times_causes path) d.0 e
  doing_uncalled (ExportTimes path) d k e = session_uncalled trace faults G input output vault keeper ended (ExportsTimes now path host input output) (export_times_causes path) d.0 e
  doing_uncalled (Put path) d k e = session_uncalled trace faults G input output vault keeper ended (ComesPut now path input output) (put_causes path) d e
  doing_uncalled (Get path) d k e = session_uncalled trace faults G input output vault keeper ended (ComesGet now path input output) (get_causes path) d e
  doing_uncalled Check d k e = checked_uncalled trace faults names G input output vault keeper ended k d e
  doing_uncalled Survey d k e = surveyed_uncalled trace faults names G input output vault keeper ended k d e
  doing_uncalled Look d k e = looked_uncalled trace faults G vault keeper ended words now s d e

  pub doing_usage : (form : Form) → Doing form → Caused form → ended.status ≢ Usage
  doing_usage Trial d k e = trial_is_no input output ended.status Usage (tried_end now input output ended.status d.0) e (λ h. h)
  doing_usage (TrialGenerate count) d k e = trial_is_no input output ended.status Usage (generated_end now count input output ended.status d.0) e (λ h. h)
  doing_usage (Create options) d k e = created_usage trace faults G input output vault keeper ended k options.params options.block_size chance left d e
  doing_usage Info d k e = told_usage trace faults G input output vault keeper ended k d e
  doing_usage Passwd d k e = changed_usage trace faults G input output vault keeper ended k chance left d e
  doing_usage Migrate d k e = migrated_usage trace faults G input output vault keeper ended d e
  doing_usage Shell d k e = session_usage trace faults G input output vault keeper ended (ComesShell now input output) shell_causes d e
  doing_usage (Generate count) d k e = session_usage trace faults G input output vault keeper ended (ComesGenerated now count input output) (generated_causes count) d e
  doing_usage Command d k e = session_usage trace faults G input output vault keeper ended (ComesCommand now (joined words) input output) command_causes d e
  doing_usage (Import path) d k e = session_usage trace faults G input output vault keeper ended (Imports now path host input output) (import_causes path) d.0 e
  doing_usage (Export path) d k e = session_usage trace faults G input output vault keeper ended (Exports now path host input output) (export_causes path) d.0 e
  doing_usage (ImportTimes path) d k e = session_usage trace faults G input output vault keeper ended (ImportsTimes now path host input output) (import_times_causes path) d.0 e
  doing_usage (ExportTimes path) d k e = session_usage trace faults G input output vault keeper ended (ExportsTimes now path host input output) (export_times_causes path) d.0 e
  doing_usage (Put path) d k e = session_usage trace faults G input output vault keeper ended (ComesPut now path input output) (put_causes path) d e
  doing_usage (Get path) d k e = session_usage trace faults G input output vault keeper ended (ComesGet now path input output) (get_causes path) d e
  doing_usage Check d k e = checked_usage trace faults names G input output vault keeper ended k d e
  doing_usage Survey d k e = surveyed_usage trace faults names G input output vault keeper ended k d e
  doing_usage Look d k e = looked_usage trace faults G vault keeper ended words now s d e

  abbrev Rose : Type 0
  Rose = RoseBy 1 host.faults host.risen

  -- a fault of the host folder is told only by a copy, and only where there was one
  pub doing_host : (form : Form) → Doing form → Caused form → ended.status ≡ HostFault → Rose
  doing_host Trial d k e = absurd (trial_is_no input output ended.status HostFault (tried_end now input output ended.status d.0) e (λ h. h))
  doing_host (TrialGenerate count) d k e = absurd (trial_is_no input output ended.status HostFault (generated_end now count input output ended.status d.0) e (λ h. h))
  doing_host (Create options) d k e = absurd (created_host trace faults G input output vault keeper ended k options.params options.block_size chance left d e)
  doing_host Info d k e = absurd (told_host trace faults G input output vault keeper ended k d e)
  doing_host Passwd d k e = absurd (changed_host trace faults G input output vault keeper ended k chance left d e)
  doing_host Migrate d k e = absurd (migrated_host trace faults G input output vault keeper ended d e)
  doing_host Shell d k e = session_host trace faults G input output vault keeper ended (ComesShell now input output) shell_causes Rose (λ script end own es came h. absurd (host_undone (sym h ∙ came.1.1))) d e
  doing_host (Generate count) d k e = session_host trace faults G input output vault keeper ended (ComesGenerated now count input output) (generated_causes count) Rose (λ script end own es came h. absurd (host_undone (sym h ∙ came.1))) d e
  doing_host Command d k e = session_host trace faults G input output vault keeper ended (ComesCommand now (joined words) input output) command_causes Rose (λ script end own es came h. absurd (host_undone (sym h ∙ came.1))) d e
  doing_host (Import path) d k e = session_host trace faults G input output vault keeper ended (Imports now path host input output) (import_causes path) Rose (λ script end own es came h. copy_host _ came.1.1.result _ output end own host.faults host.risen came.1.1.told h came.1.1.host) d.0 e
  doing_host (Export path) d k e = session_host trace faults G input output vault keeper ended (Exports now path host input output) (export_causes path) Rose (λ script end own es came h. copy_host _ came.1.result _ output end own host.faults host.risen came.1.told h came.1.host) d.0 e
  doing_host (ImportTimes path) d k e = session_host trace faults G input output vault keeper ended (ImportsTimes now path host input output) (import_times_causes path) Rose (λ script end own es came h. copy_host _ came.1.1.result _ output end own host.faults host.risen came.1.1.told h came.1.1.host) d.0 e
  doing_host (ExportTimes path) d k e = session_host trace faults G input output vault keeper ended (ExportsTimes now path host input output) (export_times_causes path) Rose (λ script end own es came h. copy_host _ came.1.result _ output end own host.faults host.risen came.1.told h came.1.host) d.0 e
  doing_host (Put path) d k e = session_host trace faults G input output vault keeper ended (ComesPut now path input output) (put_causes path) Rose (λ script end own es came h. absurd (put_unhosted path 0 script input output end own es came.1 h)) d e
  doing_host (Get path) d k e = session_host trace faults G input output vault keeper ended (ComesGet now path input output) (get_causes path) Rose (λ script end own es came h. absurd (get_unhosted path input output end own es came.1 h)) d e
  doing_host Check d k e = absurd (checked_host trace faults names G input output vault keeper ended k d e)
  doing_host Survey d k e = absurd (surveyed_host trace faults names G input output vault keeper ended k d e)
  doing_host Look d k e = absurd (looked_host trace faults G vault keeper ended words now s d e)
