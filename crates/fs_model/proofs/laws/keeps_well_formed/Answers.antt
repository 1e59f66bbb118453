use Rattle.fs_model.proofs.WellFormedStep.{well_formed-step}
use Rattle.fs_model.proofs.laws.keeps_well_formed.Goals as goal

pub returns : goal.returns
returns c = λ tree wf. well_formed-step tree c.args.now c.args.command.now wf c.requires c.holds_names.ensures
