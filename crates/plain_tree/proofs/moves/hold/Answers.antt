use Rattle.std.proofs.Common.{◌∙◌}
use Rattle.std.specs.FinMap as tree
use Rattle.fs_model.specs.Tree.{upward}
use Rattle.plain_tree.proofs.CarryLemmas.{no_row, held_kept, held_new}
use Rattle.plain_tree.proofs.moves.hold.Goals as goal

pub returns-then-replaces-clause-ok : goal.returns-then-replaces-clause-ok
returns-then-replaces-clause-ok c = held_kept c.args.table.now (upward c.args.to.now) c.args.attr c.args.replaces c.if-replaces.true

pub insert-requires-clause-absent : goal.insert-requires-clause-absent
insert-requires-clause-absent c = no_row (tree.get c.args.table.now (upward c.args.to.now)) (c.requires.target ∙ c.if-replaces.false)

pub returns-clause-ok : goal.returns-clause-ok
returns-clause-ok c = held_new c.args.table.now c.insert.new.self (upward c.args.to.now) c.args.attr c.args.replaces c.new-none.result.items c.insert.result c.if-replaces.false c.new-none.ensures.items c.insert.ensures.ok
