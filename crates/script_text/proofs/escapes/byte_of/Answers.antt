use Rattle.std.proofs.Common.{sym}
use Rattle.std.specs.Char.{digit_value}
use Rattle.script_text.proofs.Spelled.{no_high, no_low, of_digits}
use Rattle.script_text.proofs.escapes.byte_of.Goals as goal

pub returns-in_err-high : goal.returns-in_err-high
returns-in_err-high c = rw c.from_residual.ensures (sym (no_high (digit_value c.args.high) (digit_value c.args.low) c.in_err-high.ensures.value))

pub returns-in_err-low : goal.returns-in_err-low
returns-in_err-low c = rw c.from_residual-in_err-low.ensures (sym (no_low (digit_value c.args.high) (digit_value c.args.low) c.in_err-low.ensures.value))

pub returns : goal.returns
returns c = of_digits (digit_value c.args.high) (digit_value c.args.low) _ _ c.in_ok-high.ensures.value c.in_ok-low.ensures.value
