use Rattle.std.proofs.Common.{refl}
use Rattle.script_text.specs.Grammar.{path}
use Rattle.script_text.specs.Parts.{text_before}
use Rattle.script_text.proofs.Parts.{handed_on}
use Rattle.script_text.proofs.grammar.path_before.Goals as goal

pub returns-in_err-text : goal.returns-in_err-text
returns-in_err-text g c = handed_on _ _ (text_before c.args.word.now c.args.others) _ _ c.from_residual.ensures.1 c.in_err-text.ensures

pub returns-in_err-path : goal.returns-in_err-path
returns-in_err-path g c = rw c.in_ok-text.ensures (handed_on _ _ (path c.in_ok-text.text.items) _ _ c.from_residual-in_err-path.ensures.1 c.in_err-path.ensures)

pub returns : goal.returns
returns g c = rw (c.in_ok-text.ensures, c.in_ok-path.ensures) refl
