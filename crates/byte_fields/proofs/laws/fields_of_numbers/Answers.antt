use Rattle.byte_fields.proofs.Fields.{wide16, wide32, wide64, numbers}
use Rattle.byte_fields.proofs.laws.fields_of_numbers.Goals as goal

pub returns-clause-two : goal.returns-clause-two
returns-clause-two c = numbers wide16

pub returns-clause-four : goal.returns-clause-four
returns-clause-four c = numbers wide32

pub returns-clause-eight : goal.returns-clause-eight
returns-clause-eight c = numbers wide64
