use Rattle.std.proofs.Common.{get_or, Some, sym, ◌∙◌, ap}
use Rattle.std.specs.Prelude.{cond}
use Rattle.std.specs.Option.{option_map}
use Rattle.std.specs.Ordering.{eq_by_cmp}
use Rattle.std.specs.FinMap.{find}
use Rattle.std.specs.FinMap.Entries.{find-put}
use Rattle.fs_model.specs.Tree.{Row, upward, name_cmp}
use Rattle.fs_model.proofs.TreeLemmas.{name_total}
use Rattle.plain_rows.specs.Rows.{names_of}
use Rattle.plain_rows.proofs.EditLemmas.{some_element, full_behind, folder_set, inserted_table, row_behind, item_behind}
use Rattle.plain_rows.proofs.edit.set_row.Goals as goal

pub set_item-requires-clause-full : goal.set_item-requires-clause-full
set_item-requires-clause-full c = full_behind c.args.folders.now.items c.args.at.0 c.index_mut.result.now c.deref_mut.result.now c.requires.ordered.full c.requires.at.folder.in_range c.index_mut.ensures.value c.deref_mut.ensures.value

pub returns-clause-bytes : goal.returns-clause-bytes
returns-clause-bytes c =
    let fs = c.args.folders.now.items in
    let p = upward c.args.names.now in
    let x = c.index_mut.result.now in
    let y = c.deref_mut.result.now in
    let at = item_behind fs p c.args.at.0 c.args.at.1 x y c.requires.at c.index_mut.ensures.value c.deref_mut.ensures.value in
    let e = some_element y.items.items c.args.at.1 at.in_range in
    ap (option_map (λ (row : Row). row.bytes)) (row_behind fs p c.args.at.0 c.args.at.1 x y e c.requires.ordered c.requires.named c.requires.at c.index_mut.ensures.value c.deref_mut.ensures.value) ∙ ap Some (sym (c.set_item.ensures.value e))

pub returns-clause-table : goal.returns-clause-table
returns-clause-table c =
    let fs = c.args.folders.now.items in
    let p = upward c.args.names.now in
    let x = c.index_mut.result.now in
    let y = c.deref_mut.result.now in
    let row : Row = record { attr = c.args.attr; bytes = c.args.bytes.items } in
    let at = item_behind fs p c.args.at.0 c.args.at.1 x y c.requires.at c.index_mut.ensures.value c.deref_mut.ensures.value in
    let e = some_element y.items.items c.args.at.1 at.in_range in
    inserted_table fs _ p row
    (folder_set fs p c.args.at.0 x _ y (Some row) c.requires.ordered c.requires.named c.requires.at.folder c.index_mut.ensures.value c.deref_mut.ensures.value c.set_item.ensures.path c.set_item.ensures.full
    (λ m. ap (find name_cmp m) (c.set_item.ensures.set e) ∙ (find-put name_cmp name_total m (get_or y.items.items c.args.at.1 e).value.name row (names_of y)
    ∙ ap (λ n. cond (eq_by_cmp name_cmp m n) (Some row) (find name_cmp m (names_of y))) (at.key e))))
