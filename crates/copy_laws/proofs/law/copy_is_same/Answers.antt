use Rattle.copy_laws.proofs.Copying.{copy_same}
use Rattle.copy_laws.proofs.law.copy_is_same.Goals as goal

pub returns : goal.returns
returns c = copy_same
