use Rattle.check_texts.proofs.Passing.{unwritten}
use Rattle.check_texts.proofs.strangers.print_name.Goals as goal

pub returns-in_err-push_stranger-clause-printed : goal.returns-in_err-push_stranger-clause-printed
returns-in_err-push_stranger-clause-printed g c = unwritten _ _ _ _ _ _ c.from_residual.ensures.1
