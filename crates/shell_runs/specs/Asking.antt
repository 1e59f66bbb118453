-- How a session asks.
use Rattle.std.specs.Prelude.{◌≡◌, ◌≤◌, ℕ, Bool, false, List}
use Rattle.std.specs.declared.option.Option.{Option}
use Rattle.run_status.specs.declared.status.Status.{Status}
use Rattle.session_laws.specs.answers.Sessions.{Exchange}
use Rattle.session_laws.specs.line_io.Reading.{total}
use Rattle.session_laws.specs.line_io.Streams.{Stream}
use Rattle.session_laws.specs.session_lines.declared.end.End.{End}
use Rattle.shell_runs.specs.Hosts.{HostSeen}
use Rattle.shell_runs.specs.Sessions.{ComesShell, ComesGenerated, ComesCommand}
use Rattle.shell_runs.specs.declared.generated_commands.GeneratedCommands.{GeneratedCommands}
use Rattle.shell_runs.specs.declared.shell_lines.ShellLines.{ShellLines}
use Rattle.shell_runs.specs.declared.single_line.SingleLine.{SingleLine}

-- what is asked between opening and closing
pub record Manner (A : Type 0) : Type 1 where
  -- what it needs
  pub fits : A → Type 0
  -- whether the folder of the host may be called
  pub copies : Bool
  -- how its exchanges come from what follows the password line, at which moments, and are written
  pub Comes : A → HostSeen → Stream → Stream → Option (List ℕ) → End → Status → List Exchange → Type 0

-- the input before these bytes were taken of it, without a fault: so much was left, and so many faults were counted
pub record IsEarlier (taken : ℕ) (input : Stream) (old : Option (List ℕ)) (faults : ℕ) : Type 0 where
  pub counted : total taken input.old ≡ total 0 old
  pub quiet : input.faults ≡ faults

-- the exchanges came so from the whole input, of which these bytes were taken before
abbrev pub Came : {A : Type 0} → Manner A → A → HostSeen → ℕ → Option (List ℕ) → Stream → Stream → End → Status → List Exchange → Type 0
Came M asks host taken script input output end own es =
    (old : Option (List ℕ)) (faults : ℕ) → IsEarlier taken input old faults
    → M.Comes asks host (record { old = old; new = input.new; faults = faults; risen = input.risen }) output script end own es

abbrev pub shell_manner : Manner ShellLines
shell_manner = record { fits = λ a. Unit {0}; copies = false; Comes = λ a host. ComesShell a.now }

abbrev pub generated_manner : Manner GeneratedCommands
generated_manner = record { fits = λ a. a.count ≤ 1000000; copies = false; Comes = λ a host. ComesGenerated a.now a.count }

abbrev pub single_manner : Manner SingleLine
single_manner = record { fits = λ a. Unit {0}; copies = false; Comes = λ a host. ComesCommand a.now a.line.items }
