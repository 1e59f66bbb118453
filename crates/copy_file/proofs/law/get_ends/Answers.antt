use Rattle.copy_file.proofs.Faultless.{get_fair}
use Rattle.copy_file.proofs.law.get_ends.Goals as goal

pub returns : goal.returns
returns c = get_fair
