use Rattle.copy_times.proofs.Leaving.{gives_all}
use Rattle.copy_times.proofs.law.gives_all.Goals as goal

pub returns : goal.returns
returns c = gives_all
