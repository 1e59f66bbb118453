use Rattle.std.proofs.Common.{refl, sym, ◌∙◌, ap, subst}
use Rattle.std.specs.Prelude.{IsSome}
use Rattle.std.specs.FinMap as tree
use Rattle.fs_model.specs.Tree.{Row, upward}
use Rattle.fs_model.specs.Step.{touched, with_moments}
use Rattle.fs_model.proofs.Touches.{touched-none, touched-set}
use Rattle.fs_model.proofs.PathLemmas.{not_root}
use Rattle.plain_rows.proofs.EditLemmas.{no_names}
use Rattle.plain_tree.proofs.StepLemmas.{any_names, set_there, set_after, bytes_are, same_row}
use Rattle.plain_tree.proofs.change.touch.Goals as goal

pub returns-then-is_empty : goal.returns-then-is_empty
returns-then-is_empty c = sym (ap (touched c.args.table.now c.args.now) (no_names c.args.names.now (sym c.is_empty.ensures ∙ c.if-is_empty.true)))

pub returns-in-None : goal.returns-in-None
returns-in-None c = sym (touched-none c.args.table.now c.args.now (upward c.args.names.now) (sym c.in-None.ensures))

pub set-bytes-requires-clause-named : goal.set-bytes-requires-clause-named
set-bytes-requires-clause-named c = not_root c.args.names.now (any_names c.args.names.now c.is_empty.ensures c.if-is_empty.false)

pub set-bytes-requires-clause-there : goal.set-bytes-requires-clause-there
set-bytes-requires-clause-there c = subst IsSome c.in-Some.ensures refl

pub set-requires-clause-named : goal.set-requires-clause-named
set-requires-clause-named c = not_root c.args.names.now (any_names c.args.names.now c.is_empty.ensures c.if-is_empty.false)

pub set-requires-clause-there : goal.set-requires-clause-there
set-requires-clause-there c =
    let p = upward c.args.names.now in
    subst (λ z. IsSome (tree.get z p)) (sym c.set-bytes.ensures.tree) (set_there c.args.table.now p (record { attr = c.same_attr.result; bytes = c.new-none.result.items }))

pub returns : goal.returns
returns c =
    let t = c.args.table.now in
    let p = upward c.args.names.now in
    let some = any_names c.args.names.now c.is_empty.ensures c.if-is_empty.false in
    let row : Row = record { attr = c.in-Some.row.0; bytes = c.in-Some.row.1.now } in
    let there = sym c.in-Some.ensures in
    let content = bytes_are (tree.get t p) row c.set-bytes.result.items there c.set-bytes.ensures.bytes in
    let twice = set_after t c.set-bytes.new.self c.set.new.self p (record { attr = c.same_attr.result; bytes = c.new-none.result.items }) (record { attr = c.touched.result; bytes = c.set-bytes.result.items }) c.set-bytes.ensures.tree c.set.ensures.tree in
    twice
    ∙ ap (tree.insert t p) (same_row (with_moments row c.args.now) c.touched.result c.set-bytes.result.items c.touched.ensures content)
    ∙ sym (touched-set t c.args.now p row (not_root c.args.names.now some) there)
