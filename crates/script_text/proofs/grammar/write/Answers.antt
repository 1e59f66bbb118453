use Rattle.std.proofs.Common.{refl}
use Rattle.script_text.specs.Words.{three}
use Rattle.script_text.specs.Escapes.{bytes_of}
use Rattle.script_text.specs.Grammar.{formed, path}
use Rattle.script_text.specs.Parts.{text_before}
use Rattle.script_text.proofs.Parts.{handed_on, write_by_parts}
use Rattle.script_text.proofs.grammar.write.Goals as goal

pub returns-in_err-at : goal.returns-in_err-at
returns-in_err-at c = rw write_by_parts (handed_on _ _ (three _) _ _ c.from_residual.ensures.1 c.in_err-at.ensures)

pub returns-in_err-at-2 : goal.returns-in_err-at-2
returns-in_err-at-2 c = rw (write_by_parts, c.in_ok-at.ensures, ← c.number.ensures) (handed_on _ _ (text_before _ _) _ _ c.from_residual-in_err-at-2.ensures.1 c.in_err-at-2.ensures)

pub returns-in_err-bytes : goal.returns-in_err-bytes
returns-in_err-bytes c =
    rw (write_by_parts, c.in_ok-at.ensures, ← c.number.ensures, c.in_ok-at-2.ensures) (handed_on _ _ (formed (bytes_of _)) _ _ c.from_residual-in_err-bytes.ensures.1 c.in_err-bytes.ensures)

pub returns-in_err-path : goal.returns-in_err-path
returns-in_err-path c =
    rw (write_by_parts, c.in_ok-at.ensures, ← c.number.ensures, c.in_ok-at-2.ensures, c.in_ok-bytes.ensures)
    (handed_on _ _ (path c.in_ok-at-2.at.items) _ _ c.from_residual-in_err-path.ensures.1 c.in_err-path.ensures)

pub returns : goal.returns
returns c = rw (write_by_parts, c.in_ok-at.ensures, ← c.number.ensures, c.in_ok-at-2.ensures, c.in_ok-bytes.ensures, c.in_ok-path.ensures, c.new.ensures) refl
