use Rattle.fs_model.proofs.LawLemmas.{looking_stays}
use Rattle.fs_model.proofs.laws.looking_leaves_tree.Goals as goal

pub returns : goal.returns
returns c = λ tree. looking_stays tree c.args.now c.args.command.now c.requires
