-- One call of the program's `run`.
use Rattle.std.specs.Prelude.{◌≡◌, ℕ, true, false, List}
use Rattle.std.specs.declared.option.Option.{Option}
use Rattle.fs_model.specs.Instant.{Instant}
use Rattle.cryfs_shell.specs.block_versions.Standing.{records}
use Rattle.cryfs_shell.specs.mount_core.Standing.{IsKeptMarked}
use Rattle.outside.specs.Trace.{Call}
use Rattle.outside.specs.declared.keeper.Keeper.{Ghosts as KeeperGhosts}
use Rattle.run_status.specs.declared.ended.Ended.{Ended}
use Rattle.run_status.specs.declared.status.Status.{Status}
use Rattle.cryfs_shell.specs.session_laws.Drawing.{DrawsAs}
use Rattle.cryfs_shell.specs.session_laws.Runs.{Outside, outside_of}
use Rattle.cryfs_shell.specs.program_words.Forms.{form_of}
use Rattle.cryfs_shell.specs.Clauses.{IsRefusedRun, NoFalseAlarm, KeepsTree, TellsFaults, StatusSays}
use Rattle.cryfs_shell.specs.Doing.{Did}
use Rattle.cryfs_shell.specs.shell_runs.Hosts.{IsStill}
use Rattle.cryfs_shell.specs.Kinds.{is_migration, is_look, copies, draws, heeds_mark, opens, seals}
use Rattle.cryfs_shell.specs.Streams.{Streams}

-- its words and moment, what it read, wrote, drew and copied, what was outside before and after, and the status
pub record RunCall : Type 0 where
  pub words : List (List ℕ)
  pub now : Instant
  pub streams : Streams
  pub before : Outside
  pub after : Outside
  pub status : Status

-- the call with these values
abbrev pub call_of : {V : Type 0} → {K : Type 0} → (V → Option (List Call)) → (V → ℕ) → KeeperGhosts K → List (List ℕ) → Instant → Streams → V → K → Ended V K → RunCall
call_of trace faults G words now s vault keeper ended = record {
  words = words;
  now = now;
  streams = s;
  before = outside_of trace faults G vault keeper;
  after = outside_of trace faults G ended.vault ended.keeper;
  status = ended.status;
}

-- there was a call of `run` with these values, over a directory and a local record whose meanings are given
pub record IsRunCall {V : Type 0} {K : Type 0} (trace : V → Option (List Call)) (faults : V → ℕ) (names : V → Option (List (List ℕ))) (G : KeeperGhosts K) (call : RunCall) : Type 0 where
  pub vault : V
  pub keeper : K
  pub ended : Ended V K
  pub begins : call.before ≡ outside_of trace faults G vault keeper
  pub ends : call.after ≡ outside_of trace faults G ended.vault ended.keeper
  pub status : call.status ≡ ended.status
  pub did : Did trace faults names G call.words call.now call.streams vault keeper ended (form_of call.words)
  pub refusal : heeds_mark (form_of call.words) ≡ true → IsKeptMarked records (G.kept keeper) → IsRefusedRun G.kept call.streams.output vault keeper ended
  pub no_false_alarm : is_look (form_of call.words) ≡ false → NoFalseAlarm call.streams.input (outside_of trace faults G vault keeper) (outside_of trace faults G ended.vault ended.keeper) ended.status
  pub kept : opens (form_of call.words) ≡ true → KeepsTree call.streams.input (outside_of trace faults G vault keeper) (outside_of trace faults G ended.vault ended.keeper)
  pub faults_told : TellsFaults (form_of call.words) call.streams (outside_of trace faults G vault keeper) (outside_of trace faults G ended.vault ended.keeper) ended.status
  pub statuses : StatusSays trace faults G (form_of call.words) vault keeper ended
  pub unhosted : copies (form_of call.words) ≡ false → IsStill call.streams.host
  pub undrawn : draws (form_of call.words) ≡ false → call.streams.left ≡ call.streams.chance
  pub drawn : seals (form_of call.words) ≡ true
      → DrawsAs (is_migration (form_of call.words)) call.streams.chance call.streams.left (outside_of trace faults G vault keeper) (outside_of trace faults G ended.vault ended.keeper)
