use Rattle.trial_runs.proofs.Tried.{tried}
use Rattle.trial_runs.proofs.trials.try_lines.Goals as goal

pub returns-clause-tried : goal.returns-clause-tried
returns-clause-tried g c =
    tried c.args.now _ c.answer_lines.new.host c.in-Ok.reader _ _ c.answer_lines.result _ c.new-3.ensures c.in-Ok.ensures c.status_of.ensures c.answer_lines.ensures.served
