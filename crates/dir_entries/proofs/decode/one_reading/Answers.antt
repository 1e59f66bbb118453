use Rattle.dir_entries.proofs.Bodies.{one_listing}
use Rattle.dir_entries.proofs.decode.one_reading.Goals as goal

pub returns : goal.returns
returns c = one_listing
