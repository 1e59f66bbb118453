use Rattle.copy_file.proofs.Telling.{tells}
use Rattle.copy_file.proofs.law.get_tells.Goals as goal

pub returns : goal.returns
returns c = tells
