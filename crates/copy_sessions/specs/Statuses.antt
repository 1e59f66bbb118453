-- The status of a copy that ended so, where nothing else is the matter.
use Rattle.std.specs.declared.option.Option.{Option}
use Rattle.std.specs.declared.option.Option.TheVariants.{Some}
use Rattle.std.specs.declared.result.Result.{Result}
use Rattle.std.specs.declared.result.Result.TheVariants.{Ok, Err}
use Rattle.session_lines.specs.answers.declared.answer.Answer.{Answer}
use Rattle.session_lines.specs.answers.declared.answer.Answer.TheVariants as answer
use Rattle.copy_laws.specs.declared.copied.Totals.{Totals}
use Rattle.copy_laws.specs.declared.copied.CopyFail.{CopyFail}
use Rattle.copy_laws.specs.declared.copied.CopyFail.TheVariants as fail
use Rattle.run_status.specs.declared.status.Status.{Status}
use Rattle.run_status.specs.declared.status.Status.TheVariants as status

-- a command that found no memory ends the run as want of memory does
abbrev pub stopped_status : Option Answer → Status
stopped_status (Some answer.Memory) = status.Memory
stopped_status other = status.CopyStopped

abbrev pub copy_status : Result Totals CopyFail → Option Answer → Status
copy_status (Ok totals) kept = status.Done
copy_status (Err fail.Memory) kept = status.Memory
copy_status (Err fail.Host) kept = status.HostFault
copy_status (Err fail.Stopped) kept = stopped_status kept
copy_status (Err (fail.LongPath p)) kept = status.CopyRefused
copy_status (Err (fail.Refused p e)) kept = status.CopyRefused
