use Rattle.std.proofs.Common.{map, ◌∙◌, ap}
use Rattle.std.specs.FinMap.{find}
use Rattle.fs_model.specs.Tree.{upward, path_cmp}
use Rattle.fs_model.specs.Move.{moved}
use Rattle.plain_rows.proofs.MovedEntries.{paired-moved, below_moved}
use Rattle.plain_rows.proofs.rename.rename_below.Goals as goal

pub returns-clause-ok : goal.returns-clause-ok
returns-clause-ok c =
    let fs = c.args.folders.now.items in
    let p = upward c.args.from.now in
    let q = upward c.args.to.now in
    let moves = c.in_ok-paths.ensures ∙ ap (map (λ f. moved p q (upward f.value.path))) c.deref.ensures.value in
    below_moved fs c.rebuild.new.folders.items p q c.requires.ordered c.rebuild.ensures.sorted c.requires.bare
    (λ r. c.rebuild.ensures.found r ∙ ap (find path_cmp r) (paired-moved p q c.in_ok-paths.paths.items fs moves))
