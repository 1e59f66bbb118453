use Rattle.std.proofs.Common.{[], ◌∷◌, ◌++◌, sym}
use Rattle.std.specs.Prelude.{codes}
use Rattle.script_text.specs.Texts.{kind_letter, line, numbers_text, moments_text}
use Rattle.script_text.proofs.Appended.{then_all, stopped}
use Rattle.script_text.proofs.print.push_info.Goals as goal

pub returns-in_err-push_bytes : goal.returns-in_err-push_bytes
returns-in_err-push_bytes c =
    let a = c.args.attr.now in
    let details = numbers_text a c.args.size ++ moments_text a in
    stopped _ _ _ _ (codes "stat ") (kind_letter a.kind ∷ line details) _ c.in_err-push_bytes.was c.from_residual.ensures.0 c.push_bytes.ensures

pub returns-in_err-push_byte : goal.returns-in_err-push_byte
returns-in_err-push_byte c =
    let a = c.args.attr.now in
    let k = c.kind_letter.result in
    let details = numbers_text a c.args.size ++ moments_text a in
    rw (sym c.kind_letter.ensures)
    (then_all _ _ _ _ _ (codes "stat ") (k ∷ line details) _ c.in_ok-push_bytes.was c.push_bytes.ensures
    (stopped _ _ _ _ (k ∷ []) (line details) _ c.in_err-push_byte.was c.from_residual-in_err-push_byte.ensures.0 c.push_byte.ensures))

pub returns-in_err-push_details : goal.returns-in_err-push_details
returns-in_err-push_details c =
    let a = c.args.attr.now in
    let k = c.kind_letter.result in
    let details = numbers_text a c.args.size ++ moments_text a in
    rw (sym c.kind_letter.ensures)
    (then_all _ _ _ _ _ (codes "stat ") (k ∷ line details) _ c.in_ok-push_bytes.was c.push_bytes.ensures
    (then_all _ _ _ _ _ (k ∷ []) (line details) _ c.in_ok-push_byte.was c.push_byte.ensures
    (stopped _ _ _ _ details (10 ∷ []) _ c.in_err-push_details.was c.from_residual-in_err-push_details.ensures.0 c.push_details.ensures)))

pub returns : goal.returns
returns c =
    let a = c.args.attr.now in
    let k = c.kind_letter.result in
    let details = numbers_text a c.args.size ++ moments_text a in
    rw (sym c.kind_letter.ensures)
    (then_all _ _ _ _ _ (codes "stat ") (k ∷ line details) _ c.in_ok-push_bytes.was c.push_bytes.ensures
    (then_all _ _ _ _ _ (k ∷ []) (line details) _ c.in_ok-push_byte.was c.push_byte.ensures
    (then_all _ _ _ _ _ details (10 ∷ []) _ c.in_ok-push_details.was c.push_details.ensures c.push_byte-2.ensures)))
