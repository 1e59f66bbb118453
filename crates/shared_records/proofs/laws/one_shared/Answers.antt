use Rattle.shared_records.proofs.Decoded.{one_shared}
use Rattle.shared_records.proofs.laws.one_shared.Goals as goal

pub returns : goal.returns
returns c = one_shared
