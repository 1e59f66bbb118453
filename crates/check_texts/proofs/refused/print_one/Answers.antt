use Rattle.check_texts.proofs.Passing.{unwritten}
use Rattle.check_texts.proofs.refused.print_one.Goals as goal

pub returns-in_err-push_ungiven-clause-printed : goal.returns-in_err-push_ungiven-clause-printed
returns-in_err-push_ungiven-clause-printed g c = unwritten _ _ _ _ _ _ c.from_residual.ensures.1
