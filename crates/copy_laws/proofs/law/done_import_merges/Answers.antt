use Rattle.copy_laws.proofs.Copying.{done_merges}
use Rattle.copy_laws.proofs.law.done_import_merges.Goals as goal

pub returns : goal.returns
returns c = done_merges
