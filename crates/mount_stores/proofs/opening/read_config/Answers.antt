use Rattle.mount_stores.proofs.Reading.{reads_gave}
use Rattle.mount_stores.proofs.opening.read_config.Goals as goal

pub returns-in-Ok-clause-reads : goal.returns-in-Ok-clause-reads
returns-in-Ok-clause-reads g c = reads_gave _ _ _ _ c.in-Ok-Some.ensures.gave

pub returns-in-Err-Memory-open_config-clause-reads : goal.returns-in-Err-Memory-open_config-clause-reads
returns-in-Err-Memory-open_config-clause-reads g c = reads_gave _ _ _ _ c.in-Ok-Some.ensures.gave

pub returns-in-Err-Form-clause-reads : goal.returns-in-Err-Form-clause-reads
returns-in-Err-Form-clause-reads g c = reads_gave _ _ _ _ c.in-Ok-Some.ensures.gave

pub returns-in-Err-Locked-clause-reads : goal.returns-in-Err-Locked-clause-reads
returns-in-Err-Locked-clause-reads g c = reads_gave _ _ _ _ c.in-Ok-Some.ensures.gave

pub returns-clause-reads : goal.returns-clause-reads
returns-clause-reads g c = reads_gave _ _ _ _ c.in-Ok-Some.ensures.gave
