use Rattle.std.proofs.Common.{rules}
use Rattle.std.proofs.lemmas.Fn.{always_returns_same}
use Rattle.fs_model.specs.Tree.{name_cmp}
use Rattle.fs_model.proofs.TreeLemmas.{name_total, name_exact}
use Rattle.plain_rows.specs.Rows.{item_entry}
use Rattle.plain_rows.proofs.SortedLemmas.{searched_at, searched_gap}
use Rattle.plain_rows.proofs.find.find_item.Goals as goal

pub returns-clause-found : goal.returns-clause-found
returns-clause-found c =
    let facts = c.binary_search_by.ensures in
    searched_at name_total item_entry name_exact c.args.items.now c.args.name.now c.binary_search_by.result c.requires facts.bound
    (facts.position (λ b. name_cmp b.value.name c.args.name.now) (always_returns_same _ _ _ (λ a r q called. search rules)))

pub returns-clause-absent : goal.returns-clause-absent
returns-clause-absent c =
    let facts = c.binary_search_by.ensures in
    searched_gap name_total item_entry c.args.items.now c.args.name.now c.binary_search_by.result c.requires facts.bound
    (facts.position (λ b. name_cmp b.value.name c.args.name.now) (always_returns_same _ _ _ (λ a r q called. search rules)))
