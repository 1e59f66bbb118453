use Rattle.tree_copy.proofs.Stepping.{never_host}
use Rattle.tree_copy.proofs.Turning.{stop_fails}
use Rattle.tree_copy.proofs.out_steps.begin_tree.Goals as goal

pub returns-in-Err-clause-stops : goal.returns-in-Err-clause-stops
returns-in-Err-clause-stops g c = stop_fails _ _ c.in-Err.stop c.args.tree c.fail_at.result c.fail_at.ensures c.in-Err.ensures.stops

pub returns-in-Err-clause-host : goal.returns-in-Err-clause-host
returns-in-Err-clause-host g c = λ n. never_host n c.in-Err.stop c.args.tree c.fail_at.result c.fail_at.ensures c.in-Err.ensures.never

pub returns-in-Err-clause-begun : goal.returns-in-Err-clause-begun
returns-in-Err-clause-begun g c = (c.in-Err.stop, (c.fail_at.ensures, c.in-Err.ensures.entered))
