use Rattle.fuse_messages.proofs.Codecs.{structures}
use Rattle.fuse_messages.proofs.laws.structures_have_one_reading.Goals as goal

pub returns : goal.returns
returns c = structures
