use Rattle.std.proofs.Common.{◌≡◌, ◌≤◌, ◌-◌, [], ◌∷◌, length, take, map, Some, sym, ◌∙◌, ap, subst}
use Rattle.std.specs.Prelude.{cond}
use Rattle.std.specs.Box.{with_value}
use Rattle.std.specs.Ordering.{eq_by_cmp}
use Rattle.std.specs.FinMap.{find}
use Rattle.std.specs.FinMap.Entries.{find-put}
use Rattle.fs_model.specs.declared.limits.TheConstants.{MAX_ENTRIES}
use Rattle.fs_model.specs.Tree.{Row, upward, parent, last_name, name_cmp, path_cmp}
use Rattle.fs_model.proofs.TreeLemmas.{name_total}
use Rattle.fs_model.proofs.PathLemmas.{some_names, parent_at, name_at}
use Rattle.plain_rows.specs.Sorted.{IsElementAt, IsGap}
use Rattle.plain_rows.specs.Rows.{names_of, item_row, item_entry, folder_entry}
use Rattle.plain_rows.proofs.EditLemmas.{full_behind, in_folder, folder_set, folder_kept, folder_new, folder_size, single_full, inserted_table, on_ok_map, on_err_map}
use Rattle.plain_rows.proofs.edit.insert_row.Goals as goal

pub add_item-requires-clause-full : goal.add_item-requires-clause-full
add_item-requires-clause-full c =
    let fs = c.args.folders.now.items in
    let ns = c.args.names.now in
    let at = subst (λ z. IsElementAt path_cmp folder_entry z (upward (take (length ns - 1) ns)) c.in-Ok.f) c.deref.ensures.value c.in-Ok.ensures.found in
    full_behind fs c.in-Ok.f c.index_mut.result.now c.deref_mut.result.now c.requires.ordered.full at.in_range c.index_mut.ensures.value c.deref_mut.ensures.value

pub add_item-requires-clause-absent : goal.add_item-requires-clause-absent
add_item-requires-clause-absent c =
    let fs = c.args.folders.now.items in
    let ns = c.args.names.now in
    let y = c.deref_mut.result.now in
    let n = c.index-names-last.result in
    let at = subst (λ z. IsElementAt path_cmp folder_entry z (upward (take (length ns - 1) ns)) c.in-Ok.f) c.deref.ensures.value c.in-Ok.ensures.found in
    let name : c.in_ok-item.item.value.name ≡ n = ap (λ z. z.name) c.in_ok-item.ensures.ok ∙ c.in_ok-name.ensures in
    ap (λ z. find name_cmp z (names_of y)) name
    ∙ (sym (in_folder fs ns n c.in-Ok.f c.index_mut.result.now y c.requires.ordered (some_names ns c.requires.named) c.index-names-last.is at c.index_mut.ensures.value c.deref_mut.ensures.value) ∙ c.requires.absent)

pub add_item-requires-clause-room : goal.add_item-requires-clause-room
add_item-requires-clause-room c =
    let fs = c.args.folders.now.items in
    let ns = c.args.names.now in
    let at = subst (λ z. IsElementAt path_cmp folder_entry z (upward (take (length ns - 1) ns)) c.in-Ok.f) c.deref.ensures.value c.in-Ok.ensures.found in
    let above = subst (λ z. IsElementAt path_cmp folder_entry fs z c.in-Ok.f) (sym (parent_at ns (some_names ns c.requires.named))) at in
    subst (λ k. k ≤ MAX_ENTRIES) (sym (folder_size fs (parent (upward ns)) c.in-Ok.f c.index_mut.result.now c.deref_mut.result.now c.requires.ordered above c.index_mut.ensures.value c.deref_mut.ensures.value)) c.requires.room

pub returns-in-Ok-clause-ok : goal.returns-in-Ok-clause-ok
returns-in-Ok-clause-ok c =
    let fs = c.args.folders.now.items in
    let ns = c.args.names.now in
    let p = upward ns in
    let f = c.in-Ok.f in
    let x = c.index_mut.result.now in
    let y = c.deref_mut.result.now in
    let item = c.in_ok-item.item in
    let row : Row = record { attr = c.args.attr; bytes = c.args.bytes.items } in
    let some = some_names ns c.requires.named in
    let at = subst (λ z. IsElementAt path_cmp folder_entry z (upward (take (length ns - 1) ns)) f) c.deref.ensures.value c.in-Ok.ensures.found in
    let above = subst (λ z. IsElementAt path_cmp folder_entry fs z f) (sym (parent_at ns some)) at in
    let name : item.value.name ≡ last_name p = ap (λ z. z.name) c.in_ok-item.ensures.ok ∙ (c.in_ok-name.ensures ∙ sym (name_at ns c.index-names-last.result some c.index-names-last.is)) in
    let row_is : item_row item.value ≡ row = ap item_row c.in_ok-item.ensures.ok in
    on_ok_map c.add_item.result _ _ (λ rows. inserted_table fs _ p row
    (folder_set fs p f x (with_value x c.add_item.new.folder) y (Some row) c.requires.ordered c.requires.named above c.index_mut.ensures.value c.deref_mut.ensures.value c.add_item.ensures.path c.add_item.ensures.full
    (λ m. ap (find name_cmp m) rows ∙ (find-put name_cmp name_total m item.value.name (item_row item.value) (names_of y)
    ∙ (ap (λ n. cond (eq_by_cmp name_cmp m n) (Some (item_row item.value)) (find name_cmp m (names_of y))) name
    ∙ ap (λ r. cond (eq_by_cmp name_cmp m (last_name p)) (Some r) (find name_cmp m (names_of y))) row_is))))) c.add_item.ensures.ok

pub returns-in-Ok-clause-err : goal.returns-in-Ok-clause-err
returns-in-Ok-clause-err c =
    let fs = c.args.folders.now.items in
    let ns = c.args.names.now in
    let q = upward (take (length ns - 1) ns) in
    let x = c.index_mut.result.now in
    let at = subst (λ z. IsElementAt path_cmp folder_entry z q c.in-Ok.f) c.deref.ensures.value c.in-Ok.ensures.found in
    on_err_map c.add_item.result _ _ (λ rows. folder_kept fs q c.in-Ok.f x (with_value x c.add_item.new.folder) c.deref_mut.result.now c.requires.ordered at c.index_mut.ensures.value c.deref_mut.ensures.value c.add_item.ensures.path c.add_item.ensures.full rows) c.add_item.ensures.err

pub returns-in_ok-insert-in-Err-clause-ok : goal.returns-in_ok-insert-in-Err-clause-ok
returns-in_ok-insert-in-Err-clause-ok c =
    let fs = c.args.folders.now.items in
    let ns = c.args.names.now in
    let p = upward ns in
    let b = c.in_ok-folder-in-Err.folder in
    let item = c.in_ok-item.item in
    let row : Row = record { attr = c.args.attr; bytes = c.args.bytes.items } in
    let some = some_names ns c.requires.named in
    let gap = subst (λ z. IsGap path_cmp folder_entry z (upward (take (length ns - 1) ns)) c.in-Err.place) c.deref.ensures.value c.in-Err.ensures.absent in
    let above = subst (λ z. IsGap path_cmp folder_entry fs z c.in-Err.place) (sym (parent_at ns some)) gap in
    let name : item.value.name ≡ last_name p = ap (λ z. z.name) c.in_ok-item.ensures.ok ∙ (c.in_ok-name.ensures ∙ sym (name_at ns c.index-names-last.result some c.index-names-last.is)) in
    let row_is : item_row item.value ≡ row = ap item_row c.in_ok-item.ensures.ok in
    inserted_table fs c.insert.new.self.items p row
    (folder_new fs c.insert.new.self.items p c.in-Err.place b row c.requires.ordered c.requires.named above c.in_ok-insert-in-Err.ensures.items
    (ap upward c.in_ok-folder-in-Err.ensures.path ∙ sym (parent_at ns some))
    (single_full b.value item c.in_ok-folder-in-Err.ensures.items c.in_ok-folder-in-Err.ensures.size)
    (ap (map item_entry) c.in_ok-folder-in-Err.ensures.items ∙ (ap (λ n. (n, item_row item.value) ∷ []) name ∙ ap (λ r. (last_name p, r) ∷ []) row_is)))
