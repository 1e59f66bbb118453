-- What a session does where nothing lies and nothing fails.
use Rattle.std.specs.Prelude.{◌≡◌, ◌≢◌, ◌⊎◌, ℕ, List, [], ◌∷◌}
use Rattle.std.specs.declared.option.Option.{Option}
use Rattle.copy_file.specs.answers.Sessions.{Exchange, IsSession, IsKeptPoint, latest}
use Rattle.copy_file.specs.answers.declared.answer.Answer.{Answer}
use Rattle.copy_file.specs.answers.declared.answer.Answer.TheVariants.{Reply as Replied, Memory as NoMemory, Spent}
use Rattle.session_laws.specs.config_file.Settings.{Settings}
use Rattle.fs_model.specs.Tree.{Tree}
use Rattle.copy_file.specs.line_io.Lines.{first_line}
use Rattle.copy_file.specs.line_io.Streams.{Stream, Untouched}
use Rattle.check_runs.specs.mount_stores.Identities.{HasEmptyList}
use Rattle.outside.specs.Trace.{Call}
use Rattle.outside.specs.declared.keeper.Keeper.{Ghosts as KeeperGhosts}
use Rattle.shell_runs.specs.run_frame.Passwords.{IsNextPassword}
use Rattle.run_status.specs.declared.ended.Ended.{Ended}
use Rattle.run_status.specs.declared.status.Status.{Status}
use Rattle.run_status.specs.declared.status.Status.TheVariants.{Memory}
use Rattle.copy_file.specs.session_lines.declared.end.End.{End}
use Rattle.copy_file.specs.session_lines.declared.end.End.TheVariants.{Finished}
use Rattle.session_laws.specs.Causes.{SpentSince}
use Rattle.session_laws.specs.Runs.{Outside, OutsideStandsFor}
use Rattle.shell_runs.specs.Sessions.{Session}
use Rattle.check_runs.specs.mount_core.Showing.{ShowsFiles}
use Rattle.program_laws.specs.Premises.{OfRun, IsUntroubled, Finds, Leaves}

-- a reply, or memory was refused, or a block that the command would change has its last version
abbrev pub IsFaultless : Answer → Type 0
IsFaultless (Replied reply) = Unit {0}
IsFaultless NoMemory = Unit {0}
IsFaultless Spent = Unit {0}
IsFaultless answer = ⊥

abbrev pub AreFaultless : List Exchange → Type 0
AreFaultless [] = Unit {0}
AreFaultless (e ∷ es) = IsFaultless e.answer × AreFaultless es

-- All lines were answered from the first tree on, and the output is whole. The status is the session's own, or memory was refused. A tree is kept as no acknowledged sync
-- forbids, and where memory wasn't refused the last one, with nothing left to be written.
pub record IsComplete (Came : End → Status → List Exchange → Type 0) (password : List ℕ) (c : Settings) (first : Tree) (before after : Outside) (status : Status) : Type 0 where
  pub es : List Exchange
  pub trees : List Tree
  pub own : Status
  pub came : Came Finished own es
  pub replies : IsSession first es trees
  pub unfailed : AreFaultless es
  pub spent : SpentSince before.kept es
  pub ends : (status ≡ own) ⊎ (status ≡ Memory)
  pub tree : Tree
  pub point : IsKeptPoint first es trees tree
  pub leaves : Leaves password c tree after
  pub closed : status ≢ Memory → OutsideStandsFor ShowsFiles c (latest first trees) after × HasEmptyList after.kept

-- memory was refused before anything was answered, and the first tree is still there
pub record FindsNoMemory (output : Stream) (password : List ℕ) (c : Settings) (first : Tree) (after : Outside) (status : Status) : Type 0 where
  pub ends : status ≡ Memory
  pub unwritten : Untouched output
  pub leaves : Leaves password c first after

-- where nothing lies and nothing fails, a session is complete or finds no memory; what follows the password line came to it
abbrev pub SessionsComplete : {V : Type 0} → {K : Type 0} → (V → Option (List Call)) → (V → ℕ) → KeeperGhosts K → (Stream → Stream → Option (List ℕ) → End → Status → List Exchange → Type 0) → Type 0
SessionsComplete {V = V} {K = K} trace faults G Comes =
    (input output : Stream) (vault : V) (keeper : K) (ended : Ended V K) (bytes : List ℕ) (c : Settings) (first : Tree)
    → Session trace faults G (Comes input output) input output vault keeper ended
    → OfRun trace faults G vault keeper ended (λ before after. Finds input bytes c first before → IsUntroubled input output before after
    → FindsNoMemory output (first_line bytes) c first after ended.status
    ⊎ ((script : Option (List ℕ)) × IsNextPassword input.old (first_line bytes) script
    × IsComplete (Comes input output script) (first_line bytes) c first before after ended.status))
