use Rattle.program_laws.proofs.Paths.{shown}
use Rattle.program_laws.proofs.kept_tree_law.one_shown.Goals as goal

pub returns : goal.returns
returns c m root one other s r = shown m root one other s r
