-- What holds of every mount, by what is kept, the calls on the directory, the counts of faults and the status.
use Rattle.std.specs.Prelude.{◌≡◌, ◌≢◌, ◌⊎◌, ◌≤◌, ℕ, List}
use Rattle.std.specs.declared.option.Option.{Option}
use Rattle.std.specs.declared.option.Option.TheVariants.{Some}
use Rattle.fs_model.specs.Tree.{Tree}
use Rattle.outside.specs.Causes.{RoseBy}
use Rattle.run_status.specs.declared.ended.Ended.{Ended}
use Rattle.run_status.specs.declared.status.Status.{Status}
use Rattle.run_status.specs.declared.status.Status.TheVariants.{LongPassword, Violation, DirectoryFault, StateFault, InputFault, Memory}
use Rattle.rand_core.specs.Stream.{Stream as Chance}
use Rattle.session_laws.specs.answers.Sessions.{Exchange}
use Rattle.session_laws.specs.block_versions.Standing.{records}
use Rattle.session_laws.specs.config_file.Settings.{Settings}
use Rattle.session_laws.specs.line_io.Lines.{first_line}
use Rattle.session_laws.specs.line_io.Streams.{Stream, Untouched}
use Rattle.session_laws.specs.mount_core.Standing.{IsKeptMarked}
use Rattle.session_laws.specs.mount_stores.Identities.{HasEmptyList}
use Rattle.session_laws.specs.session_lines.declared.end.End.{End}
use Rattle.session_laws.specs.Drawing.{DrawsVectors}
use Rattle.session_laws.specs.Histories.{Run, session, quiet, before_of, after_of, IsRun}
use Rattle.session_laws.specs.Openings.{HasPassword}
use Rattle.session_laws.specs.Runs.{Outside, OutsideStandsFor, OpensTo, OpensOnlyTo, forgeries, lies}
use Rattle.shell_runs.specs.mount_core.Showing.{ShowsFiles}

-- what a mount may say over a marked record: that it is marked, or why it wasn't read: no password was, memory was refused, or its keeper failed
abbrev pub IsRefusingStatus : Status → Type 0
IsRefusingStatus Violation = Unit {0}
IsRefusingStatus LongPassword = Unit {0}
IsRefusingStatus InputFault = Unit {0}
IsRefusingStatus Memory = Unit {0}
IsRefusingStatus StateFault = Unit {0}
IsRefusingStatus status = ⊥

-- over a marked record: the directory isn't called, it stays kept, nobody is told that it is open, and the status refuses
pub record IsRefusedRun {V : Type 0} {K : Type 0} (kept : K → Option (List ℕ)) (output : Stream) (vault : V) (keeper : K) (ended : Ended V K) : Type 0 where
  pub status : IsRefusingStatus ended.status
  pub uncalled : ended.vault ≡ vault
  pub stays : kept ended.keeper ≡ kept keeper
  pub unwritten : Untouched output

-- what opening must find: the input is told, and under the password in its first line what is kept stands for the first tree, and no other configuration of its file system and key opens; and nothing that opens was forged since
pub record IsFounded (input : Stream) (bytes : List ℕ) (c : Settings) (first : Tree) (before after : Outside) : Type 0 where
  pub told : input.old ≡ Some bytes
  pub opens : OpensTo ShowsFiles (first_line bytes) c first before after
  pub unforged : forgeries c after ≤ forgeries c before

-- the input is told, and under the password in its first line what is kept stands for the first tree, and no other configuration opens at all
pub record OpensOnly (input : Stream) (bytes : List ℕ) (c : Settings) (first : Tree) (before after : Outside) : Type 0 where
  pub told : input.old ≡ Some bytes
  pub opens : OpensOnlyTo ShowsFiles (first_line bytes) c first before after

-- over a directory that gave what was last written, no mount ends with a violation where no other configuration opens at all
abbrev pub NoFalseAlarm : Stream → Outside → Outside → Status → Type 0
NoFalseAlarm input before after status = (bytes : List ℕ) (c : Settings) (first : Tree) → OpensOnly input bytes c first before after → lies after ≤ lies before → status ≢ Violation

-- afterwards the record is marked, or what is kept stands for a tree
abbrev pub KeepsTree : Stream → Outside → Outside → Type 0
KeepsTree input before after = (bytes : List ℕ) (c : Settings) (first : Tree) → IsFounded input bytes c first before after
    → IsKeptMarked records after.kept ⊎ ((tree : Tree) × OutsideStandsFor ShowsFiles c tree after)

-- no count falls, and a status that names a fault of the directory or the record comes only where that count rose
pub record FaultsHappened (before after : Outside) (status : Status) : Type 0 where
  pub vault_grows : RoseBy 0 before.vault_faults after.vault_faults
  pub keeper_grows : RoseBy 0 before.keeper_faults after.keeper_faults
  pub directory_fault : status ≡ DirectoryFault → RoseBy 1 before.vault_faults after.vault_faults
  pub state_fault : status ≡ StateFault → RoseBy 1 before.keeper_faults after.keeper_faults

-- nothing waits to be written
abbrev pub IsEmptied : Outside → Type 0
IsEmptied after = HasEmptyList after.kept

-- under the password of this input the exchanges of a run came so; one of no lines has none
abbrev pub HasCome : Stream → (Option (List ℕ) → End → Status → List Exchange → Type 0) → Run → Type 0
HasCome input Came (session password before after closing es) = (script : Option (List ℕ)) × HasPassword input password script × (end : End) × (own : Status) × Came script end own es
HasCome input Came (quiet password before after) = Unit {0}
HasCome input Came run = ⊥

-- the mount led from the one moment outside to the other as this run, which is one of those that compose
pub record IsRunOf (Came : Option (List ℕ) → End → Status → List Exchange → Type 0) (input : Stream) (before after : Outside) (run : Run) : Type 0 where
  pub is_run : IsRun ShowsFiles run
  pub came : HasCome input Came run
  pub begins : before_of run ≡ before
  pub ends : after_of run ≡ after

abbrev pub HasHistory : (Option (List ℕ) → End → Status → List Exchange → Type 0) → Stream → Outside → Outside → Type 0
HasHistory Came input before after = (run : Run) × IsRunOf Came input before after run

-- where the vectors and ids of its blocks come from; and the folder of the host is left alone
pub record Spares {F : Type 0} (chance left : Chance) (before after : Outside) (old new : F) : Type 0 where
  pub drawn : DrawsVectors chance left before after
  pub unhosted : new ≡ old
