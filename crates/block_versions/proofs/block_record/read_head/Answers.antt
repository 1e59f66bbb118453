use Rattle.block_versions.proofs.Records.{head_alone}
use Rattle.block_versions.proofs.block_record.read_head.Goals as goal

pub returns-clause-record : goal.returns-clause-record
returns-clause-record c = (head_alone c.args.plain.now c.in_ok-head.field-0-1.now c.in_ok-head.head c.in_ok-head.ensures).0

pub returns-clause-long : goal.returns-clause-long
returns-clause-long c = (head_alone c.args.plain.now c.in_ok-head.field-0-1.now c.in_ok-head.head c.in_ok-head.ensures).1
