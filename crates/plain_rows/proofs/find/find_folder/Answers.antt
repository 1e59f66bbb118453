use Rattle.std.proofs.Common.{rules}
use Rattle.std.proofs.lemmas.Fn.{always_returns_same}
use Rattle.fs_model.specs.Tree.{upward, path_cmp}
use Rattle.fs_model.proofs.TreeLemmas.{path_total, path_exact}
use Rattle.plain_rows.specs.Rows.{folder_entry}
use Rattle.plain_rows.proofs.SortedLemmas.{searched_at, searched_gap}
use Rattle.plain_rows.proofs.find.find_folder.Goals as goal

pub returns-clause-found : goal.returns-clause-found
returns-clause-found c =
    let facts = c.binary_search_by.ensures in
    searched_at path_total folder_entry path_exact c.args.folders.now (upward c.args.names.now) c.binary_search_by.result c.requires facts.bound
    (facts.position (λ f. path_cmp (upward f.value.path) (upward c.args.names.now)) (always_returns_same _ _ _ (λ a r q called. search rules)))

pub returns-clause-absent : goal.returns-clause-absent
returns-clause-absent c =
    let facts = c.binary_search_by.ensures in
    searched_gap path_total folder_entry c.args.folders.now (upward c.args.names.now) c.binary_search_by.result c.requires facts.bound
    (facts.position (λ f. path_cmp (upward f.value.path) (upward c.args.names.now)) (always_returns_same _ _ _ (λ a r q called. search rules)))
