use Rattle.std.proofs.Common.{sym, subst}
use Rattle.std.specs.FinMap.{insert, empty}
use Rattle.fs_model.specs.Tree.{empty_tree}
use Rattle.path_walks.specs.Shows.{ShowsBy}
use Rattle.path_walks.proofs.Empty.{empty_shows}
use Rattle.path_rows.proofs.empty.empty_root.Goals as goal

pub returns-clause-shows : goal.returns-clause-shows
returns-clause-shows c = λ root wide. subst (λ z. ShowsBy (insert empty root z) root empty_tree (λ p. root)) (sym c.in_ok-bytes.ensures) (empty_shows root wide)
