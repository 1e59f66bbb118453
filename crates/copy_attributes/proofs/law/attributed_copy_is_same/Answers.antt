use Rattle.copy_attributes.proofs.Alike.{copy_same}
use Rattle.copy_attributes.proofs.law.attributed_copy_is_same.Goals as goal

pub returns : goal.returns
returns c = copy_same
