use Rattle.std.proofs.Common.{arith}
use Rattle.script_text.proofs.Appended.{then_all}
use Rattle.script_text.proofs.Numerals.{last_digits_step}
use Rattle.script_text.proofs.digits.+push_last_digits.Goals as goal

pub returns : goal.returns
returns t c = rw (last_digits_step c.args.count c.args.n (omega arith)) (then_all _ _ _ _ _ _ _ _ c.in_ok-push_last_digits.was c.push_last_digits.ensures c.push_byte.ensures)
