-- the pairs so far are read
use Rattle.script_text.proofs.HexDigits.{Read}
use Rattle.script_text.proofs.hex_digits.read_digits.Given as goal

abbrev pub invariant-pairs : goal.invariant-pairs
invariant-pairs l = Read l.word l.bytes l.i l.most
