use Rattle.copy_file.proofs.Leaving.{part_leaves}
use Rattle.copy_file.proofs.law.put_leaves_part.Goals as goal

pub returns : goal.returns
returns c = part_leaves
