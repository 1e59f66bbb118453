use Rattle.copy_attributes.proofs.Alike.{import_leaves}
use Rattle.copy_attributes.proofs.law.attributed_import_leaves.Goals as goal

pub returns : goal.returns
returns c = import_leaves
