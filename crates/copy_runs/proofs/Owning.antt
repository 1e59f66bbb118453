-- The status of a copy.
use Rattle.std.proofs.Common.{sym, subst}
use Rattle.std.specs.Prelude.{Result}
use Rattle.std.specs.declared.option.Option.{Option}
use Rattle.std.specs.declared.option.Option.TheVariants.{Some}
use Rattle.std.specs.declared.result.Result.TheVariants.{Ok, Err}
use Rattle.copy_file.specs.answers.declared.answer.Answer.{Answer}
use Rattle.copy_file.specs.answers.declared.answer.Answer.TheVariants as answer
use Rattle.copy_file.specs.line_io.Streams.{Stream}
use Rattle.shell_runs.specs.run_frame.Statuses.{IsOwn}
use Rattle.run_status.specs.declared.status.Status.{Status}
use Rattle.copy_file.specs.session_lines.declared.end.End.{End}
use Rattle.copy_attributes.specs.tree_copy.copy_laws.declared.copied.Totals.{Totals}
use Rattle.copy_attributes.specs.tree_copy.copy_laws.declared.copied.CopyFail.{CopyFail}
use Rattle.copy_attributes.specs.tree_copy.copy_laws.declared.copied.CopyFail.TheVariants as fail
use Rattle.copy_file.specs.copy_sessions.declared.way.Way.{Way}
use Rattle.copy_file.specs.copy_sessions.Coming.{IsCopyTold}
use Rattle.copy_file.specs.copy_sessions.Statuses.{copy_status, stopped_status}

pub mild_stop : (kept : Option Answer) → IsOwn (stopped_status kept)
mild_stop (Some answer.Memory) = tt
mild_stop other = tt

mild : (told : Result Totals CopyFail) (kept : Option Answer) → IsOwn (copy_status told kept)
mild (Ok totals) kept = tt
mild (Err fail.Memory) kept = tt
mild (Err fail.Host) kept = tt
mild (Err fail.Stopped) kept = mild_stop kept
mild (Err (fail.LongPath p)) kept = tt
mild (Err (fail.Refused p e)) kept = tt

-- a copy's status is a run's own
pub is_own : (way : Way) (result : Result Totals CopyFail) (kept : Option Answer) (output : Stream) (end : End) (own : Status) → IsCopyTold way result kept output end own → IsOwn own
is_own way result kept output end own told = subst IsOwn (sym told.status) (mild told.told kept)
