use Rattle.copy_attributes.proofs.Alike.{export_leaves}
use Rattle.copy_attributes.proofs.law.attributed_export_leaves.Goals as goal

pub returns : goal.returns
returns c = export_leaves
