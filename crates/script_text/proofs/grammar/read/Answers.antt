use Rattle.std.proofs.Common.{refl}
use Rattle.script_text.specs.Words.{three}
use Rattle.script_text.specs.Parts.{path_before}
use Rattle.script_text.proofs.Parts.{handed_on, read_by_parts}
use Rattle.script_text.proofs.grammar.read.Goals as goal

pub returns-in_err-at : goal.returns-in_err-at
returns-in_err-at c = rw read_by_parts (handed_on _ _ (three _) _ _ c.from_residual.ensures.1 c.in_err-at.ensures)

pub returns-in_err-at-2 : goal.returns-in_err-at-2
returns-in_err-at-2 c = rw (read_by_parts, c.in_ok-at.ensures, ← c.number.ensures, ← c.number-2.ensures, ← c.both.ensures) (handed_on _ _ (path_before _ _) _ _ c.from_residual-in_err-at-2.ensures.1 c.in_err-at-2.ensures)

pub returns : goal.returns
returns c = rw (read_by_parts, c.in_ok-at.ensures, ← c.number.ensures, ← c.number-2.ensures, ← c.both.ensures, c.in_ok-at-2.ensures) refl
