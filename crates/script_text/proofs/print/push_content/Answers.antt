use Rattle.std.proofs.Common.{◌≡◌, false, List, ℕ, [], ◌∷◌, length, refl, sym, ◌∙◌}
use Rattle.std.specs.Prelude.{codes, ◌==◌}
use Rattle.std.specs.List.{flat_map}
use Rattle.script_text.specs.Texts.{hex_byte, hex_text, line}
use Rattle.script_text.proofs.Appended.{then_all, stopped}
use Rattle.script_text.proofs.print.push_content.Goals as goal

hex_of_some : (bytes : List ℕ) → (length bytes == 0) ≡ false → hex_text bytes ≡ flat_map hex_byte bytes
hex_of_some [] some = absurd (cc)
hex_of_some (b ∷ bytes) some = refl

pub returns-in_err-push_bytes : goal.returns-in_err-push_bytes
returns-in_err-push_bytes c =
    stopped _ _ _ _ (codes "data ") (line (hex_text c.args.bytes.now)) _ c.in_err-push_bytes.was c.from_residual.ensures.0 c.push_bytes-2.ensures

pub returns-in_err-push_hex_bytes : goal.returns-in_err-push_hex_bytes
returns-in_err-push_hex_bytes c =
    let hex = flat_map hex_byte c.args.bytes.now in
    rw (hex_of_some c.args.bytes.now (sym c.is_empty.ensures ∙ c.if-is_empty.false))
    (then_all _ _ _ _ _ (codes "data ") (line hex) _ c.in_ok-push_bytes.was c.push_bytes-2.ensures
    (stopped _ _ _ _ hex (10 ∷ []) _ c.in_err-push_hex_bytes.was c.from_residual-in_err-push_hex_bytes.ensures.0 c.push_hex_bytes.ensures))

pub returns : goal.returns
returns c =
    let hex = flat_map hex_byte c.args.bytes.now in
    rw (hex_of_some c.args.bytes.now (sym c.is_empty.ensures ∙ c.if-is_empty.false))
    (then_all _ _ _ _ _ (codes "data ") (line hex) _ c.in_ok-push_bytes.was c.push_bytes-2.ensures
    (then_all _ _ _ _ _ hex (10 ∷ []) _ c.in_ok-push_hex_bytes.was c.push_hex_bytes.ensures c.push_byte.ensures))
