-- The statuses of a put and of a get are a run's own.
use Rattle.std.proofs.Common.{sym, subst}
use Rattle.std.specs.declared.option.Option.{Option}
use Rattle.std.specs.declared.result.Result.{Result}
use Rattle.std.specs.declared.result.Result.TheVariants.{Ok, Err}
use Rattle.copy_file.specs.answers.declared.answer.Answer.{Answer}
use Rattle.copy_file.specs.line_io.Streams.{Stream}
use Rattle.shell_runs.specs.run_frame.Statuses.{IsOwn}
use Rattle.run_status.specs.declared.status.Status.{Status}
use Rattle.copy_file.specs.session_lines.declared.end.End.{End}
use Rattle.copy_attributes.specs.tree_copy.host_folder.Folders.{HostPath}
use Rattle.copy_attributes.specs.tree_copy.copy_laws.declared.copied.Totals.{Totals}
use Rattle.copy_attributes.specs.tree_copy.copy_laws.declared.copied.CopyFail.TheVariants as fail
use Rattle.copy_file.specs.copy_sessions.declared.way.Way.TheVariants.{In}
use Rattle.copy_attributes.specs.tree_copy.copy_row.declared.stop.Stop.{Stop}
use Rattle.copy_attributes.specs.tree_copy.copy_row.declared.stop.Stop.TheVariants as stop
use Rattle.copy_file.specs.Coming.{IsPutTold, IsGetEnd}
use Rattle.copy_runs.proofs.Owning.{is_own, mild_stop}

pub put_own : (put : Result Totals Stop) (path : HostPath) (kept : Option Answer) (output : Stream) (end : End) (own : Status) → IsPutTold put path kept output end own → IsOwn own
put_own (Ok totals) path kept output end own told = is_own In (Ok totals) kept output end own told
put_own (Err stop.Memory) path kept output end own told = is_own In (Err fail.Memory) kept output end own told
put_own (Err stop.Host) path kept output end own told = subst IsOwn (sym told.0.1) tt
put_own (Err stop.Stopped) path kept output end own told = is_own In (Err fail.Stopped) kept output end own told
put_own (Err (stop.Refused e)) path kept output end own told = is_own In (Err (fail.Refused path e)) kept output end own told

pub get_own : {X : Type 0} (got : Result X Stop) (kept : Option Answer) (end : End) (own : Status) → IsGetEnd got kept end own → IsOwn own
get_own (Ok x) kept end own ends = subst IsOwn (sym ends.1) tt
get_own (Err stop.Memory) kept end own ends = subst IsOwn (sym ends.1) tt
get_own (Err stop.Host) kept end own ends = subst IsOwn (sym ends.1) tt
get_own (Err stop.Stopped) kept end own ends = subst IsOwn (sym ends.1) (mild_stop kept)
get_own (Err (stop.Refused e)) kept end own ends = subst IsOwn (sym ends.1) tt
