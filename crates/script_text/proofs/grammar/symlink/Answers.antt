use Rattle.std.proofs.Common.{refl}
use Rattle.script_text.specs.Grammar.{path, target}
use Rattle.script_text.specs.Parts.{two_texts}
use Rattle.script_text.proofs.Parts.{handed_on, symlink_by_parts}
use Rattle.script_text.proofs.grammar.symlink.Goals as goal

pub returns-in_err-to : goal.returns-in_err-to
returns-in_err-to c = rw symlink_by_parts (handed_on _ _ (two_texts _) _ _ c.from_residual.ensures.1 c.in_err-to.ensures)

pub returns-in_err-to-2 : goal.returns-in_err-to-2
returns-in_err-to-2 c = rw (symlink_by_parts, c.in_ok-to.ensures) (handed_on _ _ (target c.in_ok-to.to.items) _ _ c.from_residual-in_err-to-2.ensures.1 c.in_err-to-2.ensures)

pub returns-in_err-path : goal.returns-in_err-path
returns-in_err-path c = rw (symlink_by_parts, c.in_ok-to.ensures, c.in_ok-to-2.ensures) (handed_on _ _ (path c.in_ok-to.at.items) _ _ c.from_residual-in_err-path.ensures.1 c.in_err-path.ensures)

pub returns : goal.returns
returns c = rw (symlink_by_parts, c.in_ok-to.ensures, c.in_ok-to-2.ensures, c.in_ok-path.ensures) refl
