use Rattle.std.proofs.Common.{refl}
use Rattle.script_text.specs.Grammar.{path}
use Rattle.script_text.specs.Parts.{two_texts}
use Rattle.script_text.proofs.Parts.{handed_on, mv_by_parts}
use Rattle.script_text.proofs.grammar.mv.Goals as goal

pub returns-in_err-from : goal.returns-in_err-from
returns-in_err-from c = rw mv_by_parts (handed_on _ _ (two_texts _) _ _ c.from_residual.ensures.1 c.in_err-from.ensures)

pub returns-in_err-from-2 : goal.returns-in_err-from-2
returns-in_err-from-2 c = rw (mv_by_parts, c.in_ok-from.ensures) (handed_on _ _ (path c.in_ok-from.from.items) _ _ c.from_residual-in_err-from-2.ensures.1 c.in_err-from-2.ensures)

pub returns-in_err-path : goal.returns-in_err-path
returns-in_err-path c = rw (mv_by_parts, c.in_ok-from.ensures, c.in_ok-from-2.ensures) (handed_on _ _ (path c.in_ok-from.to.items) _ _ c.from_residual-in_err-path.ensures.1 c.in_err-path.ensures)

pub returns : goal.returns
returns c = rw (mv_by_parts, c.in_ok-from.ensures, c.in_ok-from-2.ensures, c.in_ok-path.ensures) refl
