-- each digit makes the number less
use Rattle.script_text.proofs.digits.+push_number.Given as goal

abbrev pub decreases-push_number : goal.decreases-push_number
decreases-push_number l = l.n
