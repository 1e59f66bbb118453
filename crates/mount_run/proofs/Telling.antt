-- Telling the output that the file system is open.
use Rattle.std.proofs.Common.{◌≡◌, [], ◌∷◌, inl, inr}
use Rattle.std.specs.Prelude.{Result, OnOk, OnErr}
use Rattle.std.specs.declared.result.Result.TheVariants.{Ok, Err}
use Rattle.outside.specs.Streams.{appends}
use Rattle.session_laws.specs.line_io.Streams.{Stream, HasFailed}
use Rattle.session_laws.specs.session_lines.Driven.{IsUnfailed}
use Rattle.mount_run.specs.Coming.{IsTold}

pub told_by : {E : Type 0} (result : Result Unit E) (output : Stream) → OnOk result (output.new ≡ appends output.old (46 ∷ [])) → OnOk result (IsUnfailed output) → OnErr result (HasFailed output) → IsTold output
told_by (Ok u) output written quiet failed = inl (written, quiet)
told_by (Err e) output written quiet failed = inr failed
