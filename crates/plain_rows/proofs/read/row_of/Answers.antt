use Rattle.std.proofs.Common.{◌<◌, length, [], Some, sym, ◌∙◌, ap, arith}
use Rattle.std.proofs.lemmas.Bool.Decides.{nat_tests}
use Rattle.std.specs.FinMap.{get}
use Rattle.fs_model.specs.Tree.{upward}
use Rattle.fs_model.proofs.PathLemmas.{not_root}
use Rattle.plain_rows.specs.Rows.{item_row, tree_of}
use Rattle.plain_rows.proofs.FlatLemmas.{get_root}
use Rattle.plain_rows.proofs.EditLemmas.{row_behind, no_names, row_with}
use Rattle.plain_rows.proofs.read.row_of.Goals as goal

pub returns-then-is_empty : goal.returns-then-is_empty
returns-then-is_empty c =
    let root = ap (get (tree_of c.args.folders.now)) (no_names c.args.names.now (sym c.is_empty.ensures ∙ c.if-is_empty.true)) ∙ get_root c.args.folders.now in
    let attr = ap (λ a. Some (row_with a [])) c.root_attr.ensures in
    attr ∙ sym root

pub returns-in-Some : goal.returns-in-Some
returns-in-Some c =
    let fs = c.args.folders.now in
    let p = upward c.args.names.now in
    let some : 0 < length c.args.names.now = grind (arith, nat_tests, c.if-is_empty.false, c.is_empty.ensures) in
    let e = c.index-item.result.now in
    let row = row_behind fs p c.in-Some.f c.in-Some.i c.index-folders-f.result c.deref.result.now e c.requires (not_root c.args.names.now some) c.in-Some.ensures.found c.index-folders-f.is c.deref.ensures in
    sym (row
    ∙ (ap (λ z. Some (item_row z.value)) (sym c.index-item.ensures)
    ∙ (ap (λ z. Some (row_with z.attr e.value.bytes.items)) (sym c.deref-in-Some.ensures)
    ∙ ap (λ z. Some (row_with c.deref-in-Some.result.now.attr z)) (sym (c.as_slice.ensures.value ∙ ap (λ z. z.bytes.items) c.deref-in-Some-2.ensures)))))
