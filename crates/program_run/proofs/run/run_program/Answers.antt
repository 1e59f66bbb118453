use Rattle.std.proofs.Common.{map, ap, refl}
use Rattle.std.specs.String.{string_bytes}
use Rattle.program_run.specs.Program.{folder_calls, folder_faults, folder_names, folder_record}
use Rattle.program_run.proofs.Carried.{carried}
use Rattle.program_run.proofs.Written.{wrote}
use Rattle.program_run.proofs.run.run_program.Goals as goal

pub returns-clause-call : goal.returns-clause-call
returns-clause-call g c = carried folder_calls folder_faults folder_names folder_record _ _ (ap (map string_bytes) c.as_slice.ensures.value) c.run_call.ensures.call

pub returns-clause-listed : goal.returns-clause-listed
returns-clause-listed g c = (returns-clause-call g c, record { kept = refl; calls = refl }, tt)

pub returns-clause-written : goal.returns-clause-written
returns-clause-written g c = wrote folder_calls folder_faults folder_names folder_record _ _ _ _ _ _ _ _ _ _ _ _ _ (returns-clause-call g c)
