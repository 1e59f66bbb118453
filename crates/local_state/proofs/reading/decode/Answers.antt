use Rattle.std.proofs.Common.{arith}
use Rattle.local_state.proofs.Records.{is_record, has_only, is_bad}
use Rattle.local_state.proofs.reading.decode.Goals as goal

pub returns-clause-is_record : goal.returns-clause-is_record
returns-clause-is_record c = is_record c.args.bytes.now c.record_of.result (λ i. omega (arith, c.type_inv.bytes i)) c.record_of.ensures

pub returns-clause-only : goal.returns-clause-only
returns-clause-only c = has_only c.args.bytes.now c.record_of.result c.record_of.ensures

pub returns-clause-bad_state : goal.returns-clause-bad_state
returns-clause-bad_state c = is_bad c.args.bytes.now c.record_of.result c.record_of.ensures
