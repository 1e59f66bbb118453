use Rattle.copy_file.proofs.Telling.{part_tells}
use Rattle.copy_file.proofs.law.get_tells_part.Goals as goal

pub returns : goal.returns
returns c = part_tells
