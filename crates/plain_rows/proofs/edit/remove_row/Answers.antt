use Rattle.std.proofs.Common.{◌≡◌, ℕ, List, Some, None, sym, ◌∙◌, ap, subst}
use Rattle.std.specs.Prelude.{cond}
use Rattle.std.specs.Box.{with_value}
use Rattle.std.specs.List.{remove}
use Rattle.std.specs.Option.{option_map}
use Rattle.std.specs.Ordering.{eq_by_cmp}
use Rattle.std.specs.FinMap.{find}
use Rattle.std.specs.FinMap as tree
use Rattle.std.proofs.Math.ListN.{set}
use Rattle.fs_model.specs.Tree.{Row, upward, name_cmp, last_name}
use Rattle.fs_model.proofs.TreeLemmas.{name_total, name_exact}
use Rattle.plain_rows.specs.Rows.{names_of, tree_of}
use Rattle.plain_rows.specs.Places.{IsTable}
use Rattle.plain_rows.proofs.EditLemmas.{full_behind, folder_set, folder_gone, gone, removed_table, row_behind, item_behind}
use Rattle.plain_rows.proofs.edit.remove_row.Goals as goal
use Rattle.plain_rows.proofs.edit.remove_row.Goals.{then-none, else-none}

pub take_item-item-requires-clause-full : goal.take_item-item-requires-clause-full
take_item-item-requires-clause-full c = full_behind c.args.folders.now.items c.args.at.0 c.index_mut.result.now c.deref_mut.result.now c.requires.ordered.full c.requires.at.folder.in_range c.index_mut.ensures.value c.deref_mut.ensures.value

pub returns-clause-bytes : goal.returns-clause-bytes
returns-clause-bytes c =
    let fs = c.args.folders.now.items in
    let p = upward c.args.names.now in
    let e = c.take_item-item.result.0 in
    ap (option_map (λ (row : Row). row.bytes)) (row_behind fs p c.args.at.0 c.args.at.1 c.index_mut.result.now c.deref_mut.result.now e c.requires.ordered c.requires.named c.requires.at c.index_mut.ensures.value c.deref_mut.ensures.value)
    ∙ (ap (λ b. Some b.value.bytes.items) (sym c.take_item-item.ensures.value) ∙ ap (λ z. Some z.bytes.items) (sym c.into_inner-bytes.ensures))

pub returns-clause-table : goal.returns-clause-table
returns-clause-table c =
    let fs = c.args.folders.now.items in
    let p = upward c.args.names.now in
    let f = c.args.at.0 in
    let x = c.index_mut.result.now in
    let y = c.deref_mut.result.now in
    let e = c.take_item-item.result.0 in
    let b = with_value x c.take_item-item.new.folder in
    let at = item_behind fs p f c.args.at.1 x y c.requires.at c.index_mut.ensures.value c.deref_mut.ensures.value in
    let name : e.value.name ≡ last_name p = ap (λ z. z.value.name) c.take_item-item.ensures.value ∙ at.key e in
    let found = λ (m : List ℕ). ap (find name_cmp m) c.take_item-item.ensures.fewer ∙ (gone name_total name_exact e.value.name m (names_of y)
    ∙ ap (λ n. cond (eq_by_cmp name_cmp m n) None (find name_cmp m (names_of y))) name) in
    elim c.if-none.branch [
      | then-none w ↦ subst (λ z. IsTable z (tree.remove (tree_of fs) p)) (sym (ap (λ v. v.items) w.folders-is ∙ w.remove.ensures.items))
          (removed_table fs (remove (set fs f b) f) p (folder_gone fs p f x b y c.requires.ordered c.requires.named c.requires.at.folder c.index_mut.ensures.value c.deref_mut.ensures.value (c.take_item-item.ensures.none w.if-none.true) found))
      | else-none w ↦ subst (λ z. IsTable z (tree.remove (tree_of fs) p)) (sym (ap (λ v. v.items) w.folders-is))
          (removed_table fs (set fs f b) p (folder_set fs p f x b y None c.requires.ordered c.requires.named c.requires.at.folder c.index_mut.ensures.value c.deref_mut.ensures.value c.take_item-item.ensures.path (c.take_item-item.ensures.full w.if-none.false) found))
    ]
