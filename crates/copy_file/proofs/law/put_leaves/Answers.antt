use Rattle.copy_file.proofs.Leaving.{leaves}
use Rattle.copy_file.proofs.law.put_leaves.Goals as goal

pub returns : goal.returns
returns c = leaves
