use Rattle.std.proofs.Common.{sym}
use Rattle.script_text.proofs.Numerals.{numeral_ten}
use Rattle.script_text.proofs.digits.push_decimal.Goals as goal

pub returns : goal.returns
returns c = rw (sym (numeral_ten c.args.n c.ranges.n.fits)) c.push_word.ensures
