use Rattle.program_laws.proofs.Records.{kept_one}
use Rattle.program_laws.proofs.kept_tree_law.one_tree.Goals as goal

pub returns : goal.returns
returns c kept calls settings one other a b = kept_one kept calls settings one other a b
