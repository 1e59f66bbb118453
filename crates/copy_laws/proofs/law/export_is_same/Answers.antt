use Rattle.copy_laws.proofs.Exported.{export_same}
use Rattle.copy_laws.proofs.law.export_is_same.Goals as goal

pub returns : goal.returns
returns c = export_same
