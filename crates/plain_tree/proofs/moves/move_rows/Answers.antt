use Rattle.std.proofs.Common.{refl, sym, ◌∙◌, ap, subst}
use Rattle.fs_model.specs.Tree.{Row, upward}
use Rattle.fs_model.specs.Step.{moved_to}
use Rattle.fs_model.proofs.PathLemmas.{not_root}
use Rattle.plain_tree.specs.Answers.{IsAnswer}
use Rattle.plain_tree.proofs.CarryLemmas.{is_move_free}
use Rattle.plain_tree.proofs.MoveSteps.{answer_map, whole_step, whole_invalid, whole_bad, whole_refused}
use Rattle.plain_tree.proofs.StepLemmas.{any_names}
use Rattle.plain_tree.proofs.moves.move_rows.Goals as goal

pub returns-in-Err-clause-ok : goal.returns-in-Err-clause-ok
returns-in-Err-clause-ok c =
    let np = any_names c.args.from.now c.is_empty.ensures c.if-is_empty.false in
    let nq = any_names c.args.to.now c.is_empty-else-is_empty.ensures c.if-is_empty-2.false in
    whole_refused c.args.table.now (upward c.args.from.now) (upward c.args.to.now) c.args.now c.in-Err.error (not_root c.args.from.now np) (not_root c.args.to.now nq) c.in-Err.ensures.refused

pub returns-then-is_above-clause-ok : goal.returns-then-is_above-clause-ok
returns-then-is_above-clause-ok c =
    let np = any_names c.args.from.now c.is_empty.ensures c.if-is_empty.false in
    let nq = any_names c.args.to.now c.is_empty-else-is_empty.ensures c.if-is_empty-2.false in
    whole_invalid c.args.table.now (upward c.args.from.now) (upward c.args.to.now) c.args.now _ (not_root c.args.from.now np) (not_root c.args.to.now nq) c.in-Ok.ensures.found (sym c.is_above.ensures ∙ c.if-is_above.true)

pub relocate-requires-clause-moves : goal.relocate-requires-clause-moves
relocate-requires-clause-moves c =
    let np = any_names c.args.from.now c.is_empty.ensures c.if-is_empty.false in
    let nq = any_names c.args.to.now c.is_empty-else-is_empty.ensures c.if-is_empty-2.false in
    (_, refl, is_move_free c.args.table.now (upward c.args.from.now) (upward c.args.to.now) _ c.requires (not_root c.args.from.now np) (not_root c.args.to.now nq) c.in-Ok.ensures.found c.in-Free.ensures (sym c.is_above.ensures ∙ c.if-is_above.false))

pub returns-in-Free-clause-ok : goal.returns-in-Free-clause-ok
returns-in-Free-clause-ok c =
    let t = c.args.table.now in
    let p = upward c.args.from.now in
    let q = upward c.args.to.now in
    let row : Row = record { attr = c.in-Ok.row.0; bytes = c.in-Ok.row.1.now } in
    let np = any_names c.args.from.now c.is_empty.ensures c.if-is_empty.false in
    let nq = any_names c.args.to.now c.is_empty-else-is_empty.ensures c.if-is_empty-2.false in
    let above = sym c.is_above.ensures ∙ c.if-is_above.false in
    let here = c.in-Ok.ensures.found in
    answer_map c.relocate.result _ _ (λ reply h.
    subst (λ s. IsAnswer c.relocate.new.table reply s) (sym (whole_step t p q c.args.now row (not_root c.args.from.now np) (not_root c.args.to.now nq) here above ∙ ap (moved_to t c.args.now p q row) c.in-Free.ensures))
    (h row (is_move_free t p q row c.requires (not_root c.args.from.now np) (not_root c.args.to.now nq) here c.in-Free.ensures above))) c.relocate.ensures.ok

pub returns-in-Bad-clause-ok : goal.returns-in-Bad-clause-ok
returns-in-Bad-clause-ok c =
    let np = any_names c.args.from.now c.is_empty.ensures c.if-is_empty.false in
    let nq = any_names c.args.to.now c.is_empty-else-is_empty.ensures c.if-is_empty-2.false in
    whole_bad c.args.table.now (upward c.args.from.now) (upward c.args.to.now) c.args.now _ c.in-Bad.error (not_root c.args.from.now np) (not_root c.args.to.now nq) c.in-Ok.ensures.found (sym c.is_above.ensures ∙ c.if-is_above.false) c.in-Bad.ensures

pub move_onto-requires-clause-named : goal.move_onto-requires-clause-named
move_onto-requires-clause-named c = not_root c.args.from.now (any_names c.args.from.now c.is_empty.ensures c.if-is_empty.false)

pub move_onto-requires-clause-to_named : goal.move_onto-requires-clause-to_named
move_onto-requires-clause-to_named c = not_root c.args.to.now (any_names c.args.to.now c.is_empty-else-is_empty.ensures c.if-is_empty-2.false)

pub move_onto-requires-clause-from : goal.move_onto-requires-clause-from
move_onto-requires-clause-from c = (_, refl, c.in-Ok.ensures.found)

pub move_onto-requires-clause-to : goal.move_onto-requires-clause-to
move_onto-requires-clause-to c = (_, refl, c.in-Found.ensures)

pub move_onto-requires-clause-above : goal.move_onto-requires-clause-above
move_onto-requires-clause-above c = sym c.is_above.ensures ∙ c.if-is_above.false

pub returns-clause-ok : goal.returns-clause-ok
returns-clause-ok c =
    let t = c.args.table.now in
    let p = upward c.args.from.now in
    let q = upward c.args.to.now in
    let np = any_names c.args.from.now c.is_empty.ensures c.if-is_empty.false in
    let nq = any_names c.args.to.now c.is_empty-else-is_empty.ensures c.if-is_empty-2.false in
    let above = sym c.is_above.ensures ∙ c.if-is_above.false in
    let here = c.in-Ok.ensures.found in
    answer_map c.move_onto.result _ _ (λ reply h.
    subst (λ s. IsAnswer c.move_onto.new.table reply s) (sym (whole_step t p q c.args.now _ (not_root c.args.from.now np) (not_root c.args.to.now nq) here above)) (h _ here)) c.move_onto.ensures.ok
