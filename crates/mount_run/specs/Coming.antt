-- How the exchanges of a mount come.
use Rattle.std.specs.Prelude.{◌≡◌, ◌⊎◌, ℕ, false, List, [], ◌∷◌}
use Rattle.std.specs.declared.option.Option.{Option}
use Rattle.outside.specs.Streams.{appends}
use Rattle.run_status.specs.declared.status.Status.{Status}
use Rattle.run_status.specs.declared.status.Status.TheVariants.{Done, Memory}
use Rattle.session_laws.specs.answers.Sessions.{Exchange}
use Rattle.session_laws.specs.line_io.Streams.{Stream, HasFailed}
use Rattle.session_laws.specs.session_lines.Driven.{IsUnfailed}
use Rattle.session_laws.specs.session_lines.declared.end.End.{End}
use Rattle.session_laws.specs.session_lines.declared.end.End.TheVariants.{Finished, InputFault, OutputFault}
use Rattle.mount_serving.specs.Asking.{AreServed}
use Rattle.shell_runs.specs.Asking.{Manner}
use Rattle.mount_run.specs.declared.requests.MountRequests.{MountRequests}

-- the output got the byte `.`, or a call on it failed
abbrev pub IsTold : Stream → Type 0
IsTold output = ((output.new ≡ appends output.old (46 ∷ [])) × IsUnfailed output) ⊎ HasFailed output

-- the folder was unmounted, or memory was refused before the first request; or a request couldn't be read
abbrev pub ServingEnds : End → Status → Type 0
ServingEnds Finished own = (own ≡ Done) ⊎ (own ≡ Memory)
ServingEnds InputFault own = own ≡ Done
ServingEnds OutputFault own = ⊥

-- None was asked of what refuses, so after a violation there is none. The output was told that the file system is open, and no read behind the password line failed.
pub record ComesMount (input output : Stream) (script : Option (List ℕ)) (end : End) (own : Status) (es : List Exchange) : Type 0 where
  pub served : AreServed es
  pub told : IsTold output
  pub unfailed : IsUnfailed input
  pub ends : ServingEnds end own

abbrev pub mount_manner : {C : Type 0} → {Q : Type 0} → {W : Type 0} → {E : Type 0} → Manner (MountRequests C Q W E)
mount_manner = record { fits = λ a. Unit {0}; copies = false; Comes = λ a host. ComesMount }
