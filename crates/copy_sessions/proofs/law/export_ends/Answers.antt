use Rattle.copy_sessions.proofs.Faultless.{export_ends}
use Rattle.copy_sessions.proofs.law.export_ends.Goals as goal

pub returns : goal.returns
returns c = export_ends
