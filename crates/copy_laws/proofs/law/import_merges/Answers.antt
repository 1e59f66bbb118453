use Rattle.copy_laws.proofs.Merging.{merges}
use Rattle.copy_laws.proofs.law.import_merges.Goals as goal

pub returns : goal.returns
returns c = merges
