use Rattle.check_texts.proofs.Passing.{unwritten}
use Rattle.check_texts.proofs.refused.print_totals.Goals as goal

pub returns-in_err-push_totals-clause-printed : goal.returns-in_err-push_totals-clause-printed
returns-in_err-push_totals-clause-printed g c = unwritten _ _ _ _ _ _ c.from_residual.ensures.1
