use Rattle.std.proofs.Common.{sym, ◌∙◌, ap, subst, map, ◌+◌}
use Rattle.std.specs.FinMap.{find}
use Rattle.fs_model.specs.Tree.{name_cmp, entry_size}
use Rattle.plain_rows.specs.Sorted.{IsGap}
use Rattle.plain_rows.specs.Rows.{item_entry}
use Rattle.plain_rows.proofs.ItemLemmas.{item_more_full}
use Rattle.plain_rows.proofs.folder.add_item.Goals as goal

pub unreachable-requires : goal.unreachable-requires
unreachable-requires c =
    let found = c.in-Ok.ensures.found.found c.args.item in
    let there = ap (λ z. find name_cmp z.name (map item_entry c.deref.result.now)) (sym c.deref-2.ensures) ∙ found in
    let same = ap (λ z. find name_cmp c.args.item.value.name (map item_entry z)) c.deref.ensures.value in
    let none = c.requires.absent in
    cc

pub returns-clause-full : goal.returns-clause-full
returns-clause-full c =
    let gap = subst (λ z. IsGap name_cmp item_entry z c.args.item.value.name c.in-Err.place) c.deref.ensures.value
    (subst (λ z. IsGap name_cmp item_entry c.deref.result.now z.name c.in-Err.place) c.deref-2.ensures c.in-Err.ensures.absent) in
    item_more_full c.args.folder.now _ c.requires.full c.in-Err.place c.args.item gap c.in_ok-insert-in-Err.ensures.items
    (ap (λ k. c.args.folder.now.size + k) (c.name_size-size.ensures.value ∙ ap (λ z. entry_size z.name) c.deref-in-Err.ensures))
