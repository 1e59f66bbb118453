use Rattle.shared_records.proofs.Wholes.{split_again}
use Rattle.shared_records.proofs.laws.shared_splits.Goals as goal

pub returns : goal.returns
returns c = split_again
