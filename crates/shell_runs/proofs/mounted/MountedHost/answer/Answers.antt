use Rattle.shell_runs.proofs.mounted.MountedHost.answer.Goals as goal

pub returns-clause-answered : goal.returns-clause-answered
returns-clause-answered g c = (c.answer.ensures.answers, c.answer.ensures.draws)
