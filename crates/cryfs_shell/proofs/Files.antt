-- Why a put and a get end as they do.
use Rattle.std.proofs.Common.{ℕ, List, sym, subst}
use Rattle.std.specs.declared.option.Option.{Option}
use Rattle.std.specs.declared.option.Option.TheVariants.{None}
use Rattle.std.specs.declared.result.Result.{Result}
use Rattle.std.specs.declared.result.Result.TheVariants.{Ok, Err}
use Rattle.trial_runs.specs.answers.declared.answer.Answer.{Answer}
use Rattle.trial_runs.specs.answers.Sessions.{Exchange}
use Rattle.copy_runs.specs.copy_laws.declared.copied.Totals.{Totals}
use Rattle.copy_runs.specs.copy_laws.Questions.{Question}
use Rattle.copy_runs.specs.copy_sessions.Fitting.{kept_after}
use Rattle.copy_runs.specs.copy_file.Coming.{IsPutTold, IsPutSession, IsGetEnd, IsGetSession}
use Rattle.copy_runs.specs.copy_file.Getting.{IsGet}
use Rattle.copy_runs.specs.copy_file.Putting.{InputBy}
use Rattle.copy_runs.specs.host_folder.Folders.{HostPath}
use Rattle.trial_runs.specs.line_io.Streams.{Stream}
use Rattle.copy_runs.specs.copy_row.declared.stop.Stop.{Stop}
use Rattle.copy_runs.specs.copy_row.declared.stop.Stop.TheVariants as stop
use Rattle.run_status.specs.declared.status.Status.{Status}
use Rattle.trial_runs.specs.session_lines.declared.end.End.{End}
use Rattle.cryfs_shell.proofs.Statuses.{EndCause}
use Rattle.cryfs_shell.proofs.TrialEnds.{reported_cause}

put_by : (path : HostPath) (put : Result Totals Stop) (kept : Option Answer) (input output : Stream) (end : End) (own : Status) → InputBy 0 input put → IsPutTold put path kept output end own → EndCause end input output
put_by path (Ok totals) kept input output end own used told = reported_cause input output _ end told.written
put_by path (Err stop.Memory) kept input output end own used told = reported_cause input output _ end told.written
put_by path (Err stop.Host) kept input output end own used told = subst (λ z. EndCause z input output) (sym told.0.0) used
put_by path (Err stop.Stopped) kept input output end own used told = reported_cause input output _ end told.written
put_by path (Err (stop.Refused e)) kept input output end own used told = reported_cause input output _ end told.written

pub put_cause : (path : HostPath) (script : Option (List ℕ)) (input output : Stream) (end : End) (own : Status) (es : List Exchange) → IsPutSession path 0 script input output end own es → EndCause end input output
put_cause path script input output end own es s = put_by path s.result (kept_after None es) input output end own s.used s.told

get_by : (path : HostPath) (qs : List Question) (got : Result (Unit {0}) Stop) (kept : Option Answer) (input output : Stream) (end : End) (own : Status) → IsGet path qs output got → IsGetEnd got kept end own → EndCause end input output
get_by path qs (Ok x) kept input output end own is ends = subst (λ z. EndCause z input output) (sym ends.0) tt
get_by path qs (Err stop.Memory) kept input output end own is ends = subst (λ z. EndCause z input output) (sym ends.0) tt
get_by path qs (Err stop.Host) kept input output end own is ends = subst (λ z. EndCause z input output) (sym ends.0) is.ends.1.1.1
get_by path qs (Err stop.Stopped) kept input output end own is ends = subst (λ z. EndCause z input output) (sym ends.0) tt
get_by path qs (Err (stop.Refused e)) kept input output end own is ends = subst (λ z. EndCause z input output) (sym ends.0) tt

pub get_cause : (path : HostPath) (input output : Stream) (end : End) (own : Status) (es : List Exchange) → IsGetSession path input output end own es → EndCause end input output
get_cause path input output end own es s = get_by path s.qs s.result (kept_after None es) input output end own s.is s.ends
