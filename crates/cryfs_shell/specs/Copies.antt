-- Copies as sessions.
use Rattle.std.specs.Prelude.{◌⊎◌, ℕ, List}
use Rattle.std.specs.declared.option.Option.{Option}
use Rattle.trial_runs.specs.answers.Sessions.{Exchange}
use Rattle.trial_runs.specs.line_io.Streams.{Stream}
use Rattle.outside.specs.Trace.{Call}
use Rattle.outside.specs.declared.keeper.Keeper.{Ghosts as KeeperGhosts}
use Rattle.run_status.specs.declared.ended.Ended.{Ended}
use Rattle.run_status.specs.declared.status.Status.{Status}
use Rattle.trial_runs.specs.session_lines.declared.end.End.{End}
use Rattle.copy_runs.specs.shell_runs.Sessions.{Session, WasServed}
use Rattle.copy_runs.specs.shell_runs.Hosts.{HostSeen, IsStill}

-- a session that calls the host folder only where it opened a file system
abbrev pub HostSession : {V : Type 0} → {K : Type 0} → (V → Option (List Call)) → (V → ℕ) → KeeperGhosts K → (Option (List ℕ) → End → Status → List Exchange → Type 0)
    → Stream → Stream → HostSeen → V → K → Ended V K → Type 0
HostSession trace faults G Came input output host vault keeper ended =
    Session trace faults G Came input output vault keeper ended × (IsStill host ⊎ WasServed trace faults G Came input vault keeper ended)
