use Rattle.std.proofs.Common.{[], ◌∷◌, sym}
use Rattle.script_text.proofs.Appended.{then_all, stopped}
use Rattle.script_text.specs.Texts.{line, word, escaped}
use Rattle.script_text.proofs.print.push_row.Goals as goal

pub returns-in_err-push_byte : goal.returns-in_err-push_byte
returns-in_err-push_byte c =
    rw (sym c.kind_letter.ensures) (stopped _ _ _ _ (c.kind_letter.result ∷ []) (line (word (escaped c.args.row.now.name))) _ c.in_err-push_byte.was c.from_residual.ensures.0 c.push_byte.ensures)

pub returns : goal.returns
returns c =
    rw (sym c.kind_letter.ensures, sym c.as_slice.ensures.value)
    (then_all _ _ _ _ _ (c.kind_letter.result ∷ []) (line (word (escaped c.as_slice.result.now))) _ c.in_ok-push_byte.was c.push_byte.ensures c.push_last_word.ensures)
