use Rattle.std.proofs.Common.{sym, subst}
use Rattle.fs_model.specs.Tree.{IsWellFormed}
use Rattle.fs_model.proofs.WellFormedStep.{empty_well_formed}
use Rattle.plain_tree.proofs.tree.PlainTree.new.Goals as goal

pub invariant_of-result : goal.invariant_of-result
invariant_of-result c = subst IsWellFormed (sym c.new.ensures) empty_well_formed
