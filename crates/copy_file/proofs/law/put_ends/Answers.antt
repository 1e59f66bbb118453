use Rattle.copy_file.proofs.Faultless.{put_fair}
use Rattle.copy_file.proofs.law.put_ends.Goals as goal

pub returns : goal.returns
returns c = put_fair
