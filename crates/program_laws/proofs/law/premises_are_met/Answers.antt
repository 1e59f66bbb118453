use Rattle.program_laws.proofs.Premises.{rests, found}
use Rattle.program_laws.proofs.law.premises_are_met.Goals as goal

pub returns-clause-rest : goal.returns-clause-rest
returns-clause-rest k input output bytes o told read written vault keeper taken given = rests input output bytes o told read written vault keeper taken given

pub returns-clause-left : goal.returns-clause-left
returns-clause-left k input bytes password settings tree o told first short leaves = found input bytes password settings tree o told first short leaves
