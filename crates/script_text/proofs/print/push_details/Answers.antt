use Rattle.script_text.specs.Texts.{moments_text, numbers_text}
use Rattle.script_text.proofs.Appended.{then_all, stopped}
use Rattle.script_text.proofs.print.push_details.Goals as goal

pub returns-in_err-push_numbers : goal.returns-in_err-push_numbers
returns-in_err-push_numbers c =
    stopped _ _ _ _ (numbers_text c.args.attr.now c.args.size) (moments_text c.args.attr.now) _ c.in_err-push_numbers.was c.from_residual.ensures.0 c.push_numbers.ensures

pub returns : goal.returns
returns c =
    then_all _ _ _ _ _ (numbers_text c.args.attr.now c.args.size) (moments_text c.args.attr.now) _ c.in_ok-push_numbers.was c.push_numbers.ensures c.push_moments.ensures
