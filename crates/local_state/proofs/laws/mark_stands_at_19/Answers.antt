use Rattle.local_state.proofs.Records.{mark_place, marked_record}
use Rattle.local_state.proofs.laws.mark_stands_at_19.Goals as goal

pub returns-clause-place : goal.returns-clause-place
returns-clause-place c = mark_place

pub returns-clause-marked : goal.returns-clause-marked
returns-clause-marked c = marked_record
