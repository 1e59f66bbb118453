use Rattle.byte_fields.proofs.Fields.{fronts}
use Rattle.byte_fields.proofs.laws.fields_of_bytes.Goals as goal

pub returns : goal.returns
returns c = fronts
