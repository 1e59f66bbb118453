use Rattle.std.proofs.Common.{[], ◌∷◌, sym}
use Rattle.std.specs.Fmt.{decimal}
use Rattle.script_text.specs.Texts.{last_digits, word}
use Rattle.script_text.proofs.Appended.{then_all, stopped}
use Rattle.script_text.proofs.digits.push_moment.Goals as goal

pub returns-in_err-push_decimal : goal.returns-in_err-push_decimal
returns-in_err-push_decimal c =
    let m = c.args.moment.now in
    rw (sym c.secs.ensures) (stopped _ _ _ _ (word (decimal c.secs.result)) (46 ∷ last_digits 9 m.nanos) _ c.in_err-push_decimal.was c.from_residual.ensures.0 c.push_decimal.ensures)

pub returns-in_err-push_byte : goal.returns-in_err-push_byte
returns-in_err-push_byte c =
    let m = c.args.moment.now in
    rw (sym c.secs.ensures)
    (then_all _ _ _ _ _ (word (decimal c.secs.result)) (46 ∷ last_digits 9 m.nanos) _ c.in_ok-push_decimal.was c.push_decimal.ensures
    (stopped _ _ _ _ (46 ∷ []) (last_digits 9 m.nanos) _ c.in_err-push_byte.was c.from_residual-in_err-push_byte.ensures.0 c.push_byte.ensures))

pub returns : goal.returns
returns c =
    let nanos = c.nanos.result in
    rw (sym c.secs.ensures, sym c.nanos.ensures.value)
    (then_all _ _ _ _ _ (word (decimal c.secs.result)) (46 ∷ last_digits 9 nanos) _ c.in_ok-push_decimal.was c.push_decimal.ensures
    (then_all _ _ _ _ _ (46 ∷ []) (last_digits 9 nanos) _ c.in_ok-push_byte.was c.push_byte.ensures c.push_last_digits.ensures))
