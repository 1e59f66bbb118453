use Rattle.std.proofs.Common.{sym, ◌∙◌, ap, subst}
use Rattle.std.specs.Prelude.{IsSome}
use Rattle.std.specs.FinMap as tree
use Rattle.fs_model.specs.Tree.{Row, upward, is_root}
use Rattle.fs_model.proofs.LookUpLemmas.{get-found}
use Rattle.fs_model.proofs.PathLemmas.{not_root}
use Rattle.fs_model.specs.Changes.{changed_by}
use Rattle.plain_rows.proofs.EditLemmas.{no_names}
use Rattle.plain_tree.proofs.StepLemmas.{any_names, there_of, set_there, set_after, bytes_are, same_row, attributes_done}
use Rattle.plain_tree.proofs.Refusals.{root_step, attributes_refused}
use Rattle.plain_tree.proofs.change.set_attributes.Goals as goal

pub returns-then-is_empty : goal.returns-then-is_empty
returns-then-is_empty c = root_step c.args.table.now (upward c.args.names.now) _ (ap is_root (no_names c.args.names.now (sym c.is_empty.ensures ∙ c.if-is_empty.true)))

pub returns-in-Err : goal.returns-in-Err
returns-in-Err c =
    let some = any_names c.args.names.now c.is_empty.ensures c.if-is_empty.false in
    attributes_refused c.args.table.now (upward c.args.names.now) (changed_by c.args.change c.args.now) c.in-Err.error (not_root c.args.names.now some) c.in-Err.ensures.refused

pub set-bytes-requires-clause-named : goal.set-bytes-requires-clause-named
set-bytes-requires-clause-named c =
    let some = any_names c.args.names.now c.is_empty.ensures c.if-is_empty.false in
    not_root c.args.names.now some

pub set-bytes-requires-clause-there : goal.set-bytes-requires-clause-there
set-bytes-requires-clause-there c = there_of c.args.table.now (upward c.args.names.now) _ c.in-Ok.ensures.found

pub set-requires-clause-named : goal.set-requires-clause-named
set-requires-clause-named c =
    let some = any_names c.args.names.now c.is_empty.ensures c.if-is_empty.false in
    not_root c.args.names.now some

pub set-requires-clause-there : goal.set-requires-clause-there
set-requires-clause-there c =
    let p = upward c.args.names.now in
    subst (λ z. IsSome (tree.get z p)) (sym c.set-bytes.ensures.tree) (set_there c.args.table.now p (record { attr = c.same_attr.result; bytes = c.new-none.result.items }))

pub returns : goal.returns
returns c =
    let t = c.args.table.now in
    let p = upward c.args.names.now in
    let some = any_names c.args.names.now c.is_empty.ensures c.if-is_empty.false in
    let row : Row = record { attr = c.in-Ok.row.0; bytes = c.in-Ok.row.1.now } in
    let content = bytes_are (tree.get t p) row c.set-bytes.result.items (get-found t p row c.in-Ok.ensures.found) c.set-bytes.ensures.bytes in
    let twice = set_after t c.set-bytes.new.self c.set.new.self p (record { attr = c.same_attr.result; bytes = c.new-none.result.items }) (record { attr = c.changed-attr.result; bytes = c.set-bytes.result.items }) c.set-bytes.ensures.tree c.set.ensures.tree in
    attributes_done t c.set.new.self c.args.now p row (not_root c.args.names.now some) c.in-Ok.ensures.found (changed_by c.args.change c.args.now)
    (twice ∙ ap (tree.insert t p) (same_row (record { attr = changed_by c.args.change c.args.now row.attr; bytes = row.bytes }) c.changed-attr.result c.set-bytes.result.items c.changed-attr.ensures content))
