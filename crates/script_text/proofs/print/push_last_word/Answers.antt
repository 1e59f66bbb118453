use Rattle.std.proofs.Common.{[], ◌∷◌}
use Rattle.script_text.specs.Texts.{line, escaped}
use Rattle.script_text.proofs.Appended.{then_all, stopped}
use Rattle.script_text.proofs.print.push_last_word.Goals as goal

pub returns-in_err-push_byte : goal.returns-in_err-push_byte
returns-in_err-push_byte c =
    stopped _ _ _ _ (32 ∷ []) (line (escaped c.args.bytes.now)) _ c.in_err-push_byte.was c.from_residual.ensures.0 c.push_byte.ensures

pub returns-in_err-push_escaped : goal.returns-in_err-push_escaped
returns-in_err-push_escaped c =
    then_all _ _ _ _ _ (32 ∷ []) (line (escaped c.args.bytes.now)) _ c.in_ok-push_byte.was c.push_byte.ensures
    (stopped _ _ _ _ (escaped c.args.bytes.now) (10 ∷ []) _ c.in_err-push_escaped.was c.from_residual-in_err-push_escaped.ensures.0 c.push_escaped.ensures)

pub returns : goal.returns
returns c =
    then_all _ _ _ _ _ (32 ∷ []) (line (escaped c.args.bytes.now)) _ c.in_ok-push_byte.was c.push_byte.ensures
    (then_all _ _ _ _ _ (escaped c.args.bytes.now) (10 ∷ []) _ c.in_ok-push_escaped.was c.push_escaped.ensures c.push_byte-2.ensures)
