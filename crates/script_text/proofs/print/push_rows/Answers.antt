use Rattle.std.proofs.Common.{[], ◌∷◌, ◌++◌, length, append_assoc}
use Rattle.std.specs.Prelude.{codes}
use Rattle.std.specs.List.{flat_map}
use Rattle.std.specs.Fmt.{decimal}
use Rattle.script_text.specs.Texts.{row_text, word}
use Rattle.script_text.proofs.Appended.{then_all, stopped}
use Rattle.script_text.proofs.print.push_rows.Goals as goal

pub returns-in_err-push_bytes : goal.returns-in_err-push_bytes
returns-in_err-push_bytes c =
    let rows = c.args.rows.now in
    let rest = 10 ∷ flat_map row_text rows in
    simp append_assoc (stopped _ _ _ _ (codes "list") (word (decimal (length rows)) ++ rest) _ c.in_err-push_bytes.was c.from_residual.ensures.0 c.push_bytes.ensures)

pub returns-in_err-push_decimal : goal.returns-in_err-push_decimal
returns-in_err-push_decimal c =
    let rows = c.args.rows.now in
    let rest = 10 ∷ flat_map row_text rows in
    simp append_assoc
    (then_all _ _ _ _ _ (codes "list") (word (decimal (length rows)) ++ rest) _ c.in_ok-push_bytes.was c.push_bytes.ensures
    (stopped _ _ _ _ (word (decimal (length rows))) rest _ c.in_err-push_decimal.was c.from_residual-in_err-push_decimal.ensures.0 c.push_decimal.ensures))

pub returns-in_err-push_byte : goal.returns-in_err-push_byte
returns-in_err-push_byte c =
    let rows = c.args.rows.now in
    let rest = 10 ∷ flat_map row_text rows in
    simp append_assoc
    (then_all _ _ _ _ _ (codes "list") (word (decimal (length rows)) ++ rest) _ c.in_ok-push_bytes.was c.push_bytes.ensures
    (then_all _ _ _ _ _ (word (decimal (length rows))) rest _ c.in_ok-push_decimal.was c.push_decimal.ensures
    (stopped _ _ _ _ (10 ∷ []) (flat_map row_text rows) _ c.in_err-push_byte.was c.from_residual-in_err-push_byte.ensures.0 c.push_byte.ensures)))

pub returns : goal.returns
returns c =
    let rows = c.args.rows.now in
    let rest = 10 ∷ flat_map row_text rows in
    simp append_assoc
    (then_all _ _ _ _ _ (codes "list") (word (decimal (length rows)) ++ rest) _ c.in_ok-push_bytes.was c.push_bytes.ensures
    (then_all _ _ _ _ _ (word (decimal (length rows))) rest _ c.in_ok-push_decimal.was c.push_decimal.ensures
    (then_all _ _ _ _ _ (10 ∷ []) (flat_map row_text rows) _ c.in_ok-push_byte.was c.push_byte.ensures c.push_each_row.ensures)))
