use Rattle.copy_sessions.proofs.Faultless.{import_ends}
use Rattle.copy_sessions.proofs.law.import_ends.Goals as goal

pub returns : goal.returns
returns c = import_ends
