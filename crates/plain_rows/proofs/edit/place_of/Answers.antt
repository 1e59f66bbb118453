use Rattle.std.proofs.Common.{map, T, refl, sym, ◌∙◌, ap, subst}
use Rattle.std.specs.FinMap.{find, is_sorted}
use Rattle.fs_model.specs.Tree.{name_cmp}
use Rattle.fs_model.proofs.PathLemmas.{some_names}
use Rattle.plain_rows.specs.Rows.{item_entry}
use Rattle.plain_rows.proofs.EditLemmas.{full_behind, no_folder, in_folder}
use Rattle.plain_rows.proofs.edit.place_of.Goals as goal

pub returns-in_default-clause-absent : goal.returns-in_default-clause-absent
returns-in_default-clause-absent c = no_folder c.args.folders.now c.args.names.now c.requires.ordered (some_names c.args.names.now c.requires.named) c.in_default.ensures.absent.absent

pub find_item-requires : goal.find_item-requires
find_item-requires c =
    let x = c.index-folders-f.result in
    subst (λ z. T (is_sorted name_cmp (map item_entry z))) (sym (c.deref-2.ensures.value ∙ ap (λ g. g.items.items) c.deref.ensures))
    (full_behind c.args.folders.now c.in-Ok.f x x.value c.requires.ordered.full c.in-Ok.ensures.found.in_range c.index-folders-f.is refl).sorted

pub returns-in-Err-clause-absent : goal.returns-in-Err-clause-absent
returns-in-Err-clause-absent c =
    let ns = c.args.names.now in
    let n = c.index-names-last.result in
    in_folder c.args.folders.now ns n c.in-Ok.f c.index-folders-f.result c.deref.result.now c.requires.ordered (some_names ns c.requires.named) c.index-names-last.is c.in-Ok.ensures.found c.index-folders-f.is c.deref.ensures
    ∙ (ap (λ z. find name_cmp n (map item_entry z)) (sym c.deref-2.ensures.value) ∙ c.in-Err.ensures.absent.absent)
