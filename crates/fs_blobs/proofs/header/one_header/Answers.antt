use Rattle.fs_blobs.proofs.Laws.{one_in_front}
use Rattle.fs_blobs.proofs.header.one_header.Goals as goal

pub returns : goal.returns
returns c = one_in_front
