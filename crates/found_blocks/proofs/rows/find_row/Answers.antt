use Rattle.std.proofs.Common.{rules}
use Rattle.std.proofs.lemmas.Fn.{always_returns_same}
use Rattle.std.specs.Cmp.Lexicographic.{nat_list_cmp_total}
use Rattle.std.specs.FinMap.{slice_cmp-IsAntisymmetric, nat_cmp-IsAntisymmetric}
use Rattle.store_api.specs.Content.{id_cmp}
use Rattle.plain_rows.proofs.SortedLemmas.{searched_at, searched_gap}
use Rattle.found_blocks.specs.Rows.{row_entry}
use Rattle.found_blocks.proofs.rows.find_row.Goals as goal

pub returns-clause-found : goal.returns-clause-found
returns-clause-found c =
    let facts = c.binary_search_by.ensures in
    searched_at nat_list_cmp_total row_entry (slice_cmp-IsAntisymmetric nat_cmp-IsAntisymmetric) c.args.rows.now c.args.id.now.0 c.binary_search_by.result c.requires facts.bound
    (facts.position (λ row. id_cmp row.id.0 c.args.id.now.0) (always_returns_same _ _ _ (λ a r q called. search rules)))

pub returns-clause-absent : goal.returns-clause-absent
returns-clause-absent c =
    let facts = c.binary_search_by.ensures in
    searched_gap nat_list_cmp_total row_entry c.args.rows.now c.args.id.now.0 c.binary_search_by.result c.requires facts.bound
    (facts.position (λ row. id_cmp row.id.0 c.args.id.now.0) (always_returns_same _ _ _ (λ a r q called. search rules)))
