use Rattle.copy_laws.proofs.Copying.{import_same}
use Rattle.copy_laws.proofs.law.import_is_same.Goals as goal

pub returns : goal.returns
returns c = import_same
