-- What a run does, by what its words ask for.
use Rattle.std.specs.Prelude.{◌≡◌, ℕ, List}
use Rattle.std.specs.declared.option.Option.{Option}
use Rattle.std.specs.declared.option.Option.TheVariants.{None, Some}
use Rattle.check_runs.specs.Running.{RanCheck}
use Rattle.check_runs.specs.SurveyRuns.{RanSurvey}
use Rattle.check_runs.specs.setup_runs.Create.{RanCreate}
use Rattle.check_runs.specs.setup_runs.Info.{Told}
use Rattle.check_runs.specs.setup_runs.Migrate.{RanMigrate}
use Rattle.check_runs.specs.setup_runs.Passwd.{RanPasswd}
use Rattle.fs_model.specs.Instant.{Instant}
use Rattle.trial_runs.specs.line_io.Streams.{Untouched}
use Rattle.outside.specs.Trace.{Call}
use Rattle.outside.specs.declared.keeper.Keeper.{Ghosts as KeeperGhosts}
use Rattle.session_laws.specs.Openings.{AreUncalled, HasCauses}
use Rattle.looking.specs.Runs.{RanLook}
use Rattle.run_status.specs.declared.ended.Ended.{Ended}
use Rattle.run_status.specs.declared.status.Status.{Status}
use Rattle.session_laws.specs.Runs.{Outside, outside_of, IsLookedRun}
use Rattle.copy_runs.specs.copy_file.Coming.{ComesPut, ComesGet}
use Rattle.copy_runs.specs.shell_runs.Sessions.{Session, ComesShell, ComesGenerated, ComesCommand}
use Rattle.program_words.specs.declared.form.Form.{Form}
use Rattle.program_words.specs.declared.form.Form.TheVariants.{Trial, TrialGenerate, Create, Info, Passwd, Migrate, Shell, Generate, Command, Import, Export, ImportTimes, ExportTimes, Put, Get, Check, Survey, Look}
use Rattle.program_words.specs.Forms.{joined, words_behind}
use Rattle.copy_runs.specs.Copies.{Imports, Exports, ImportsTimes, ExportsTimes}
use Rattle.cryfs_shell.specs.Copies.{HostSession}
use Rattle.cryfs_shell.specs.Kinds.{IsRefused}
use Rattle.cryfs_shell.specs.Streams.{Streams}
use Rattle.trial_runs.specs.Runs.{Tried, GeneratedOnPlain}

-- A look answered the one line that the words behind the first are, over found blocks. The directory was only asked for files, and the local record wasn't called.
pub record HasLooked {V : Type 0} {K : Type 0} (trace : V → Option (List Call)) (faults : V → ℕ) (G : KeeperGhosts K) (words : List (List ℕ)) (now : Instant) (s : Streams) (vault : V) (keeper : K) (ended : Ended V K) : Type 0 where
  pub ran : RanLook trace faults now (joined (words_behind words)) s.input s.output vault keeper ended
  pub looked : IsLookedRun (outside_of trace faults G vault keeper) (outside_of trace faults G ended.vault ended.keeper)
  pub same_keeper : ended.keeper ≡ keeper

-- what a run did, by what its words ask for; words of no form are refused, and nothing is done
abbrev pub Did : {V : Type 0} → {K : Type 0} → (V → Option (List Call)) → (V → ℕ) → (V → Option (List (List ℕ))) → KeeperGhosts K → List (List ℕ) → Instant → Streams → V → K → Ended V K → Option Form → Type 0
Did trace faults names G words now s vault keeper ended None = IsRefused words ended.status × Untouched s.input × Untouched s.output × AreUncalled vault keeper ended × (s.left ≡ s.chance)
Did trace faults names G words now s vault keeper ended (Some Trial) = Tried now s.input s.output ended.status × AreUncalled vault keeper ended
Did trace faults names G words now s vault keeper ended (Some (TrialGenerate count)) = GeneratedOnPlain now count s.output ended.status × Untouched s.input × AreUncalled vault keeper ended
Did trace faults names G words now s vault keeper ended (Some (Create options)) = RanCreate trace faults G options.params options.block_size s.chance s.left s.input s.output vault keeper ended
Did trace faults names G words now s vault keeper ended (Some Info) = Told trace faults G s.input s.output vault keeper ended
Did trace faults names G words now s vault keeper ended (Some Passwd) = RanPasswd trace faults G s.chance s.left s.input s.output vault keeper ended
Did trace faults names G words now s vault keeper ended (Some Migrate) = RanMigrate trace faults G s.input s.output vault keeper ended
Did trace faults names G words now s vault keeper ended (Some Shell) = Session trace faults G (ComesShell now s.input s.output) s.input s.output vault keeper ended
Did trace faults names G words now s vault keeper ended (Some (Generate count)) = Session trace faults G (ComesGenerated now count s.input s.output) s.input s.output vault keeper ended
Did trace faults names G words now s vault keeper ended (Some Command) = Session trace faults G (ComesCommand now (joined words) s.input s.output) s.input s.output vault keeper ended
Did trace faults names G words now s vault keeper ended (Some (Import path)) = HostSession trace faults G (Imports now path s.host s.input s.output) s.input s.output s.host vault keeper ended
Did trace faults names G words now s vault keeper ended (Some (Export path)) = HostSession trace faults G (Exports now path s.host s.input s.output) s.input s.output s.host vault keeper ended
Did trace faults names G words now s vault keeper ended (Some (ImportTimes path)) = HostSession trace faults G (ImportsTimes now path s.host s.input s.output) s.input s.output s.host vault keeper ended
Did trace faults names G words now s vault keeper ended (Some (ExportTimes path)) = HostSession trace faults G (ExportsTimes now path s.host s.input s.output) s.input s.output s.host vault keeper ended
Did trace faults names G words now s vault keeper ended (Some (Put path)) = Session trace faults G (ComesPut now path s.input s.output) s.input s.output vault keeper ended
Did trace faults names G words now s vault keeper ended (Some (Get path)) = Session trace faults G (ComesGet now path s.input s.output) s.input s.output vault keeper ended
Did trace faults names G words now s vault keeper ended (Some Check) = RanCheck trace faults names G s.input s.output vault keeper ended
Did trace faults names G words now s vault keeper ended (Some Survey) = RanSurvey trace faults names G s.input s.output vault keeper ended
Did trace faults names G words now s vault keeper ended (Some Look) = HasLooked trace faults G words now s vault keeper ended

-- the status of a run that is no session, no trial and no migration names only faults of the directory and the record that happened
abbrev pub IsCaused : Outside → Outside → Status → Form → Type 0
IsCaused before after status (Create options) = HasCauses before after status
IsCaused before after status Info = HasCauses before after status
IsCaused before after status Passwd = HasCauses before after status
IsCaused before after status Check = HasCauses before after status
IsCaused before after status Survey = HasCauses before after status
IsCaused before after status Look = HasCauses before after status
IsCaused before after status form = Unit {0}
