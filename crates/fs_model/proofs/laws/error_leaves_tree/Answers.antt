use Rattle.fs_model.proofs.LawLemmas.{error_stays}
use Rattle.fs_model.proofs.laws.error_leaves_tree.Goals as goal

pub returns : goal.returns
returns c = λ tree e h. (error_stays tree c.args.now c.args.command.now).stays e h
