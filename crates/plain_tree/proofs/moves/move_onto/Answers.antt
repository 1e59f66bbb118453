use Rattle.std.proofs.Common.{sym, ◌∙◌, ap, subst, true, false}
use Rattle.fs_model.specs.Tree.{upward, is_directory}
use Rattle.fs_model.proofs.LookUpLemmas.{get-found}
use Rattle.fs_model.proofs.PutRows.{below_file}
use Rattle.plain_tree.specs.Answers.{IsAnswer}
use Rattle.plain_tree.proofs.CarryLemmas.{is_move_found}
use Rattle.plain_tree.proofs.MoveSteps.{answer_map, kind_of, onto_same, onto_step, onto_directory, onto_full, onto_other, other_onto, childless}
use Rattle.plain_tree.proofs.moves.move_onto.Goals as goal

pub returns-then-same_names-clause-ok : goal.returns-then-same_names-clause-ok
returns-then-same_names-clause-ok c = λ row here.
    onto_same c.args.table.now (upward c.args.from.now) (upward c.args.to.now) c.args.now row c.requires.to.0 c.requires.to.2 (sym c.same_names.ensures ∙ c.if-same_names.true)

pub returns-in-true-false-clause-ok : goal.returns-in-true-false-clause-ok
returns-in-true-false-clause-ok c = λ row here.
    let t = c.args.table.now in
    let p = upward c.args.from.now in
    let q = upward c.args.to.now in
    let from = kind_of t p row c.requires.from.0 c.args.attr true here c.requires.from.2 c.requires.from.1 (sym c.in-true-false.ensures) in
    let onto = ap is_directory c.requires.to.1 ∙ sym c.in-true-false.ensures' in
    onto_other t p q c.args.now row c.requires.to.0 c.requires.to.2 (sym c.same_names.ensures ∙ c.if-same_names.false) from onto

pub returns-in-false-true-clause-ok : goal.returns-in-false-true-clause-ok
returns-in-false-true-clause-ok c = λ row here.
    let t = c.args.table.now in
    let p = upward c.args.from.now in
    let q = upward c.args.to.now in
    let from = kind_of t p row c.requires.from.0 c.args.attr false here c.requires.from.2 c.requires.from.1 (sym c.in-false-true.ensures) in
    let onto = ap is_directory c.requires.to.1 ∙ sym c.in-false-true.ensures' in
    other_onto t p q c.args.now row c.requires.to.0 c.requires.to.2 (sym c.same_names.ensures ∙ c.if-same_names.false) from onto

pub returns-then-has_child-clause-ok : goal.returns-then-has_child-clause-ok
returns-then-has_child-clause-ok c = λ row here.
    let t = c.args.table.now in
    let p = upward c.args.from.now in
    let q = upward c.args.to.now in
    let from = kind_of t p row c.requires.from.0 c.args.attr true here c.requires.from.2 c.requires.from.1 (sym c.in-true-true.ensures) in
    let onto = ap is_directory c.requires.to.1 ∙ sym c.in-true-true.ensures' in
    onto_full t p q c.args.now row c.requires.to.0 c.requires.to.2 (sym c.same_names.ensures ∙ c.if-same_names.false) from onto (sym c.has_child.ensures ∙ c.if-has_child.true)

pub relocate-requires-clause-moves : goal.relocate-requires-clause-moves
relocate-requires-clause-moves c =
    let t = c.args.table.now in
    let p = upward c.args.from.now in
    let q = upward c.args.to.now in
    let f = c.requires.from in (
      f.0,
      f.1,
      is_move_found t p q f.0 c.requires.to.0 c.requires.formed c.requires.named c.requires.to_named f.2 c.requires.to.2 c.requires.above (sym c.same_names.ensures ∙ c.if-same_names.false)
          (childless t q (sym c.has_child.ensures ∙ c.if-has_child.false)),
    )

pub relocate-requires-in-false-false-clause-moves : goal.relocate-requires-in-false-false-clause-moves
relocate-requires-in-false-false-clause-moves c =
    let t = c.args.table.now in
    let p = upward c.args.from.now in
    let q = upward c.args.to.now in
    let f = c.requires.from in
    let onto = ap is_directory c.requires.to.1 ∙ sym c.in-false-false.ensures' in (
      f.0,
      f.1,
      is_move_found t p q f.0 c.requires.to.0 c.requires.formed c.requires.named c.requires.to_named f.2 c.requires.to.2 c.requires.above (sym c.same_names.ensures ∙ c.if-same_names.false)
          (below_file t q c.requires.to.0 c.requires.formed.rooted (get-found t q c.requires.to.0 c.requires.to.2) onto),
    )

pub returns-else-has_child-clause-ok : goal.returns-else-has_child-clause-ok
returns-else-has_child-clause-ok c =
    let t = c.args.table.now in
    let p = upward c.args.from.now in
    let q = upward c.args.to.now in
    let apart = sym c.same_names.ensures ∙ c.if-same_names.false in
    let none = sym c.has_child.ensures ∙ c.if-has_child.false in
    let onto = ap is_directory c.requires.to.1 ∙ sym c.in-true-true.ensures' in
    answer_map c.relocate.result _ _ (λ reply h row here.
    let from = kind_of t p row c.requires.from.0 c.args.attr true here c.requires.from.2 c.requires.from.1 (sym c.in-true-true.ensures) in
    subst (λ s. IsAnswer c.relocate.new.table reply s) (sym (onto_directory t p q c.args.now row c.requires.to.0 c.requires.to.2 apart from onto none))
    (h row (is_move_found t p q row c.requires.to.0 c.requires.formed c.requires.named c.requires.to_named here c.requires.to.2 c.requires.above apart (childless t q none)))) c.relocate.ensures.ok

pub returns-in-false-false-clause-ok : goal.returns-in-false-false-clause-ok
returns-in-false-false-clause-ok c =
    let t = c.args.table.now in
    let p = upward c.args.from.now in
    let q = upward c.args.to.now in
    let apart = sym c.same_names.ensures ∙ c.if-same_names.false in
    let onto = ap is_directory c.requires.to.1 ∙ sym c.in-false-false.ensures' in
    let bare = below_file t q c.requires.to.0 c.requires.formed.rooted (get-found t q c.requires.to.0 c.requires.to.2) onto in
    answer_map c.relocate-in-false-false.result _ _ (λ reply h row here.
    let from = kind_of t p row c.requires.from.0 c.args.attr false here c.requires.from.2 c.requires.from.1 (sym c.in-false-false.ensures) in
    subst (λ s. IsAnswer c.relocate-in-false-false.new.table reply s) (sym (onto_step t p q c.args.now row c.requires.to.0 c.requires.to.2 apart false false from onto))
    (h row (is_move_found t p q row c.requires.to.0 c.requires.formed c.requires.named c.requires.to_named here c.requires.to.2 c.requires.above apart bare))) c.relocate-in-false-false.ensures.ok
