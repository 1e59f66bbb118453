use Rattle.block_versions.proofs.Records.{record_again, record_took}
use Rattle.block_versions.proofs.laws.records_as_texts.Goals as goal

pub returns-clause-again : goal.returns-clause-again
returns-clause-again c = record_again

pub returns-clause-took : goal.returns-clause-took
returns-clause-took c = record_took
