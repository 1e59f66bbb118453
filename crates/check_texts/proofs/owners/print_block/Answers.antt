use Rattle.check_texts.proofs.Passing.{unwritten}
use Rattle.check_texts.proofs.owners.print_block.Goals as goal

pub returns-in_err-push_block-clause-printed : goal.returns-in_err-push_block-clause-printed
returns-in_err-push_block-clause-printed g c = unwritten _ _ _ _ _ _ c.from_residual.ensures.1
