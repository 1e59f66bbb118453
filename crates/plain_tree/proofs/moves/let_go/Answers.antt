use Rattle.std.specs.FinMap as tree
use Rattle.fs_model.specs.Tree.{upward}
use Rattle.plain_tree.proofs.CarryLemmas.{is_there}
use Rattle.plain_tree.proofs.moves.let_go.Goals as goal

pub remove-requires-clause-there : goal.remove-requires-clause-there
remove-requires-clause-there c = is_there (tree.get c.args.table.now (upward c.args.to.now)) c.requires.there
