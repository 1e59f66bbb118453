use Rattle.fs_model.specs.Tree.{upward}
use Rattle.fs_model.proofs.LookUpLemmas.{look-walk}
use Rattle.fs_model.proofs.laws.look_up_walks.Goals as goal

pub returns : goal.returns
returns c = λ tree wf. look-walk tree wf (upward c.args.path.now)
