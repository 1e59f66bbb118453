use Rattle.trial_runs.proofs.Tried.{summed}
use Rattle.trial_runs.proofs.trials.try_generated.Goals as goal

pub returns-clause-generated : goal.returns-clause-generated
returns-clause-generated g c =
    summed c.args.now c.args.count _ c.answer_generated.new.host _ c.answer_generated.result _ c.new-2.ensures c.status_of.ensures c.answer_generated.ensures.generated
