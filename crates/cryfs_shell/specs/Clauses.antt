-- What holds of every run, by what is kept, the calls on the directory, the counts of faults and the status.
use Rattle.std.specs.Prelude.{◌≡◌, ◌≢◌, ◌⊎◌, ◌≤◌, ℕ, true, false, List}
use Rattle.std.specs.declared.option.Option.{Option}
use Rattle.std.specs.declared.option.Option.TheVariants.{None, Some}
use Rattle.session_laws.specs.config_file.Settings.{Settings}
use Rattle.fs_model.specs.Tree.{Tree}
use Rattle.session_laws.specs.block_versions.Standing.{records}
use Rattle.trial_runs.specs.line_io.Lines.{first_line}
use Rattle.trial_runs.specs.line_io.Streams.{Stream, HasFailed, Untouched}
use Rattle.check_runs.specs.mount_stores.Identities.{HasEmptyList}
use Rattle.check_runs.specs.mount_core.Standing.{IsKeptMarked}
use Rattle.outside.specs.Causes.{RoseBy}
use Rattle.outside.specs.Trace.{Call}
use Rattle.outside.specs.declared.keeper.Keeper.{Ghosts as KeeperGhosts}
use Rattle.session_laws.specs.run_frame.Passwords.{InputFailed}
use Rattle.run_status.specs.declared.ended.Ended.{Ended}
use Rattle.run_status.specs.declared.status.Status.{Status}
use Rattle.run_status.specs.declared.status.Status.TheVariants.{Done, Usage, LongPassword, Violation, DirectoryFault, StateFault, InputFault, OutputFault, Memory, HostFault}
use Rattle.trial_runs.specs.session_lines.Driven.{IsUnfailed}
use Rattle.session_laws.specs.Openings.{AreUncalled}
use Rattle.session_laws.specs.Drawing.{DrawsAs}
use Rattle.session_laws.specs.Runs.{Outside, outside_of, OutsideStandsFor, OpensTo, OpensOnlyTo, forgeries, lies}
use Rattle.program_words.specs.declared.form.Form.{Form}
use Rattle.program_words.specs.declared.form.Form.TheVariants.{Passwd, Migrate, Check, Survey, Look}
use Rattle.copy_runs.specs.shell_runs.Hosts.{HostSeen}
use Rattle.cryfs_shell.specs.Kinds.{is_session, is_migration, copies, draws, seals}
use Rattle.cryfs_shell.specs.Streams.{Streams}
use Rattle.check_runs.specs.mount_core.Showing.{ShowsFiles}

-- what a run may say over a marked record: that it is marked, or why it wasn't read: no password was, memory was refused, or its keeper failed
abbrev pub IsRefusingStatus : Status → Type 0
IsRefusingStatus Violation = Unit {0}
IsRefusingStatus LongPassword = Unit {0}
IsRefusingStatus InputFault = Unit {0}
IsRefusingStatus Memory = Unit {0}
IsRefusingStatus StateFault = Unit {0}
IsRefusingStatus status = ⊥

-- over a marked record: the directory isn't called, it stays kept, nothing is written, and the status refuses
pub record IsRefusedRun {V : Type 0} {K : Type 0} (kept : K → Option (List ℕ)) (output : Stream) (vault : V) (keeper : K) (ended : Ended V K) : Type 0 where
  pub status : IsRefusingStatus ended.status
  pub uncalled : ended.vault ≡ vault
  pub stays : kept ended.keeper ≡ kept keeper
  pub unwritten : Untouched output

-- what opening must find: the input is told, and under the password in its first line what is kept stands for the first tree, and no other configuration of its file system and key opens
pub record IsOpenedRun (input : Stream) (bytes : List ℕ) (c : Settings) (first : Tree) (before after : Outside) : Type 0 where
  pub told : input.old ≡ Some bytes
  pub opens : OpensTo ShowsFiles (first_line bytes) c first before after

-- the same where no other configuration opens at all
pub record OpensOnlyRun (input : Stream) (bytes : List ℕ) (c : Settings) (first : Tree) (before after : Outside) : Type 0 where
  pub told : input.old ≡ Some bytes
  pub opens : OpensOnlyTo ShowsFiles (first_line bytes) c first before after

-- what a run must find besides: no block file that opens was forged since
pub record IsFoundedRun (input : Stream) (bytes : List ℕ) (c : Settings) (first : Tree) (before after : Outside) : Type 0 where
  pub opened : IsOpenedRun input bytes c first before after
  pub unforged : forgeries c after ≤ forgeries c before

-- over a directory that gave what was last written, no run ends with a violation where no other configuration opens at all
abbrev pub NoFalseAlarm : Stream → Outside → Outside → Status → Type 0
NoFalseAlarm input before after status = (bytes : List ℕ) (c : Settings) (first : Tree) → OpensOnlyRun input bytes c first before after → lies after ≤ lies before → status ≢ Violation

-- afterwards the record is marked, or what is kept stands for a tree
abbrev pub KeepsTree : Stream → Outside → Outside → Type 0
KeepsTree input before after = (bytes : List ℕ) (c : Settings) (first : Tree) → IsFoundedRun input bytes c first before after
    → IsKeptMarked records after.kept ⊎ ((tree : Tree) × OutsideStandsFor ShowsFiles c tree after)

-- No count falls, and a status that names a fault comes only where that count rose in the run; a count at the end of its type is excepted. The input's fault may also
-- say that 2^63 bytes were taken.
pub record FaultsHappened (input output : Stream) (before after : Outside) (status : Status) : Type 0 where
  pub vault_grows : RoseBy 0 before.vault_faults after.vault_faults
  pub keeper_grows : RoseBy 0 before.keeper_faults after.keeper_faults
  pub directory_fault : status ≡ DirectoryFault → RoseBy 1 before.vault_faults after.vault_faults
  pub state_fault : status ≡ StateFault → RoseBy 1 before.keeper_faults after.keeper_faults
  pub input_fault : status ≡ InputFault → InputFailed input
  pub output_fault : status ≡ OutputFault → HasFailed output

-- a status that may be the error of the change of a password, behind which a fault that closing met is hidden; each status of `migrate` and of a look, whose line names its fault as that of a session; and those of `check --all` that may stand
-- behind lines of blocks, which name their faults
abbrev pub MayHide : Option Form → Status → Type 0
MayHide (Some Migrate) status = Unit {0}
MayHide (Some Look) status = Unit {0}
MayHide (Some Passwd) Memory = Unit {0}
MayHide (Some Passwd) DirectoryFault = Unit {0}
MayHide (Some Passwd) StateFault = Unit {0}
MayHide (Some Survey) Violation = Unit {0}
MayHide (Some Survey) OutputFault = Unit {0}
MayHide (Some Survey) Memory = Unit {0}
MayHide form status = ⊥

-- the same of a fault of the record: behind the violation of a check a mark that wasn't saved is hidden besides; `check --all` hides none
abbrev pub MayHideState : Option Form → Status → Type 0
MayHideState (Some Check) Violation = Unit {0}
MayHideState (Some Survey) status = ⊥
MayHideState form status = MayHide form status

-- Of a run that is no session no fault of the directory or the record is passed over: where the status doesn't name it, that count is as it was; but the error of the change in
-- `passwd` may hide one that closing met, the violation of a check one of its mark, and that of `migrate`, of a look and of `check --all` is named by its lines. Behind want of memory at most one of the two counts rose.
pub record FaultsNamed (form : Option Form) (before after : Outside) (status : Status) : Type 0 where
  pub directory_quiet : ¬ MayHide form status → status ≢ DirectoryFault → after.vault_faults ≡ before.vault_faults
  pub state_quiet : ¬ MayHideState form status → status ≢ StateFault → after.keeper_faults ≡ before.keeper_faults
  pub memory : status ≡ Memory → (after.vault_faults ≡ before.vault_faults) ⊎ (after.keeper_faults ≡ before.keeper_faults)

-- Of no run a fault of the input or the output is passed over: where the status doesn't name it, that count is as it was. A violation may hide both, and a password line that is
-- too long the input's.
pub record StreamFaultsNamed (input output : Stream) (status : Status) : Type 0 where
  pub input_quiet : status ≢ InputFault → status ≢ LongPassword → status ≢ Violation → IsUnfailed input
  pub output_quiet : status ≢ OutputFault → status ≢ Violation → IsUnfailed output

-- nothing waits to be written
abbrev pub IsEmptied : Outside → Type 0
IsEmptied after = HasEmptyList after.kept

-- of the host folder no count falls, and a status that names a fault of it comes only where that count rose
pub record HostFaultsHappened (host : HostSeen) (status : Status) : Type 0 where
  pub grows : host.faults ≤ host.risen
  pub host_fault : status ≡ HostFault → RoseBy 1 host.faults host.risen

-- which faults a run tells: those that happened, and of which none is passed over; no count falls
pub record TellsFaults (asked : Option Form) (s : Streams) (before after : Outside) (status : Status) : Type 0 where
  pub input_grows : s.input.faults ≤ s.input.risen
  pub output_grows : s.output.faults ≤ s.output.risen
  pub faults_happened : FaultsHappened s.input s.output before after status
  pub host_faults_happened : HostFaultsHappened s.host status
  pub faults_named : is_session asked ≡ false → FaultsNamed asked before after status
  pub stream_faults_named : StreamFaultsNamed s.input s.output status

-- what three statuses say: the words were of no form, nothing was called, or in a session that all is written
pub record StatusSays {V : Type 0} {K : Type 0} (trace : V → Option (List Call)) (faults : V → ℕ) (G : KeeperGhosts K) (asked : Option Form) (vault : V) (keeper : K) (ended : Ended V K) : Type 0 where
  pub usage : ended.status ≡ Usage → asked ≡ None
  pub uncalled : ended.status ≡ LongPassword → AreUncalled vault keeper ended
  pub done : is_session asked ≡ true → ended.status ≡ Done → IsEmptied (outside_of trace faults G ended.vault ended.keeper)

-- what a run leaves alone that doesn't ask for it: the host folder but in copies, and the random bytes; and which of these the files take that a session or migrate seals, and
-- their ids
pub record Spares {F : Type 0} (asked : Option Form) (s : Streams) (before after : Outside) (old new : F) : Type 0 where
  pub unhosted : copies asked ≡ false → new ≡ old
  pub undrawn : draws asked ≡ false → s.left ≡ s.chance
  pub drawn : seals asked ≡ true → DrawsAs (is_migration asked) s.chance s.left before after
