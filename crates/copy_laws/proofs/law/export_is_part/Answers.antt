use Rattle.copy_laws.proofs.Exported.{export_part}
use Rattle.copy_laws.proofs.law.export_is_part.Goals as goal

pub returns : goal.returns
returns c = export_part
