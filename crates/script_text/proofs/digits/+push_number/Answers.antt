use Rattle.script_text.proofs.Appended.{then_all, stopped}
use Rattle.script_text.proofs.Numerals.{numeral_last, numeral_step}
use Rattle.script_text.proofs.digits.+push_number.Goals as goal

pub returns-then-n-base : goal.returns-then-n-base
returns-then-n-base t c = rw (numeral_last c.args.base c.args.n c.requires.low c.if-n-base.true) c.push_byte.ensures

pub returns-in_err-push_number : goal.returns-in_err-push_number
returns-in_err-push_number t c = rw (numeral_step c.args.base c.args.n c.requires.low c.if-n-base.false) (stopped _ _ _ _ _ _ _ c.in_err-push_number.was c.from_residual.ensures.0 c.push_number.ensures)

pub returns : goal.returns
returns t c = rw (numeral_step c.args.base c.args.n c.requires.low c.if-n-base.false) (then_all _ _ _ _ _ _ _ _ c.in_ok-push_number.was c.push_number.ensures c.push_byte-2.ensures)
