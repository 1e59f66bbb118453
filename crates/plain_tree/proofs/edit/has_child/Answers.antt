use Rattle.std.proofs.Common.{◌∙◌, ap}
use Rattle.std.specs.Prelude.{nat_lt}
use Rattle.fs_model.specs.Tree.{upward}
use Rattle.fs_model.proofs.SizeLemmas.{has_child-size}
use Rattle.plain_tree.proofs.edit.has_child.Goals as goal

pub returns : goal.returns
returns c = ap (nat_lt 0) c.size.ensures ∙ has_child-size c.args.table.now (upward c.args.names.now)
