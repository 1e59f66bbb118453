use Rattle.std.proofs.Common.{sym, ◌∙◌, ap, subst}
use Rattle.fs_model.specs.Tree.{upward, path_cmp}
use Rattle.fs_model.proofs.TreeLemmas.{path_total}
use Rattle.plain_rows.specs.Sorted.{IsElementAt}
use Rattle.plain_rows.specs.Rows.{folder_entry}
use Rattle.plain_rows.specs.Formed.{AllFull}
use Rattle.plain_rows.proofs.SortedLemmas.{set_put}
use Rattle.plain_rows.proofs.FullLemmas.{full-set, full-insert}
use Rattle.plain_rows.proofs.rename.put_folder.Goals as goal

pub returns-in-Ok-clause-entries : goal.returns-in-Ok-clause-entries
returns-in-Ok-clause-entries c =
    let fs = c.args.folders.now.items in
    let x = c.index_mut.result.now in
    let at = subst (λ z. IsElementAt path_cmp folder_entry fs (upward z) c.in-Ok.f) (c.names.ensures ∙ ap (λ g. g.path) c.deref-2.ensures)
    (subst (λ z. IsElementAt path_cmp folder_entry z (upward c.names.result.now) c.in-Ok.f) c.deref.ensures.value c.in-Ok.ensures.found) in
    set_put path_total folder_entry fs c.in-Ok.f c.args.folder x c.requires.sorted at.in_range (sym (at.key x))

pub returns-in-Ok-clause-full : goal.returns-in-Ok-clause-full
returns-in-Ok-clause-full c = full-set c.args.folders.now.items c.in-Ok.f c.args.folder c.requires.full c.requires.this

pub returns-in-Ok-insert-clause-full : goal.returns-in-Ok-insert-clause-full
returns-in-Ok-insert-clause-full c = subst AllFull (sym c.in-Ok-insert.ensures.items) (full-insert c.args.folders.now.items c.in-Err.place c.args.folder c.requires.full c.requires.this)
