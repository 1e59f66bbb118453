use Rattle.check_runs.proofs.Chains.{reads_of}
use Rattle.check_runs.proofs.law.gave_reads.Goals as goal

pub returns : goal.returns
returns g c held trace a b given empty gave = reads_of held trace a b given empty gave
