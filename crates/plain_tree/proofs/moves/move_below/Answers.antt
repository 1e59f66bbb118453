use Rattle.std.proofs.Common.{sym, ◌∙◌}
use Rattle.fs_model.specs.Tree.{upward}
use Rattle.plain_tree.proofs.CarryLemmas.{below_alone}
use Rattle.plain_tree.proofs.moves.move_below.Goals as goal

pub returns-else-is_directory-clause-ok : goal.returns-else-is_directory-clause-ok
returns-else-is_directory-clause-ok c = below_alone c.args.table.now (upward c.args.from.now) (upward c.args.to.now) c.requires.bare (c.requires.leaf (sym c.is_directory.ensures ∙ c.if-is_directory.false))
