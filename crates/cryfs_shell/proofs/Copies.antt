-- A session whose exchanges came in one way, as one whose exchanges came in another.
use Rattle.std.proofs.Common.{◌≡◌, ◌⊎◌, ℕ, List, ap, inl, inr}
use Rattle.std.specs.declared.option.Option.{Option}
use Rattle.trial_runs.specs.answers.Sessions.{Exchange}
use Rattle.fs_model.specs.Tree.{Tree}
use Rattle.copy_runs.specs.host_folder.Folders.{HostTree}
use Rattle.trial_runs.specs.line_io.Streams.{Stream}
use Rattle.outside.specs.Trace.{Call}
use Rattle.outside.specs.declared.keeper.Keeper.{Ghosts as KeeperGhosts}
use Rattle.run_status.specs.declared.ended.Ended.{Ended}
use Rattle.run_status.specs.declared.status.Status.{Status}
use Rattle.trial_runs.specs.session_lines.declared.end.End.{End}
use Rattle.copy_runs.specs.shell_runs.Sessions.{Session, IsServed, WasServed}
use Rattle.cryfs_shell.specs.Copies.{HostSession}
use Rattle.copy_runs.specs.shell_runs.Hosts.{host_of}

module _ {V : Type 0} {K : Type 0} (trace : V → Option (List Call)) (faults : V → ℕ) (G : KeeperGhosts K) (input output : Stream) (vault : V) (keeper : K) (ended : Ended V K)
    (Came Other : Option (List ℕ) → End → Status → List Exchange → Type 0) (turn : (script : Option (List ℕ)) (end : End) (own : Status) (es : List Exchange) → Came script end own es → Other script end own es) where
  served_as : (password : List ℕ) (script : Option (List ℕ)) → IsServed trace faults G password (Came script) vault keeper ended → IsServed trace faults G password (Other script) vault keeper ended
  served_as password script s = record {
    es = s.es;
    end = s.end;
    own = s.own;
    closing = s.closing;
    mild = s.mild;
    came = turn script s.end s.own s.es s.came;
    session = s.session;
    mounted = s.mounted;
    status = s.status;
  }

  pub session_as : Session trace faults G Came input output vault keeper ended → Session trace faults G Other input output vault keeper ended
  session_as (inl u) = inl u
  session_as (inr (password, script, has, inl unopened)) = inr (password, script, has, inl unopened)
  session_as (inr (password, script, has, inr s)) = inr (password, script, has, inr (served_as password script s))

-- a session that left the folder of the host as it was, or opened a file system
pub host_session : {V : Type 0} {K : Type 0} (trace : V → Option (List Call)) (faults : V → ℕ) (G : KeeperGhosts K) (input : Stream) (vault : V) (keeper : K) (ended : Ended V K)
    (Came : Option (List ℕ) → End → Status → List Exchange → Type 0) (output : Stream) {F : Type 0} (tree : F → Option HostTree) (attributes : F → Option Tree) (count : F → ℕ) (old new : F) → Session trace faults G Came input output vault keeper ended
    → (new ≡ old) ⊎ WasServed trace faults G Came input vault keeper ended → HostSession trace faults G Came input output (host_of tree attributes count old new) vault keeper ended
host_session trace faults G input vault keeper ended Came output tree attributes count old new session (inl same) = (session, inl (record { same = ap tree same; attributes = ap attributes same; quiet = ap count same }))
host_session trace faults G input vault keeper ended Came output tree attributes count old new session (inr s) = (session, inr s)
