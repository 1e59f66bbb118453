use Rattle.local_state.proofs.Records.{one_reading}
use Rattle.local_state.proofs.laws.one_reading.Goals as goal

pub returns : goal.returns
returns c = one_reading
