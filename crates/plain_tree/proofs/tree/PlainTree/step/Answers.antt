use Rattle.plain_tree.proofs.StepLemmas.{formed_after}
use Rattle.plain_tree.proofs.tree.PlainTree.step.Goals as goal

pub invariant_of-self : goal.invariant_of-self
invariant_of-self c = formed_after c.self.inside.table c.step_table.new.table c.args.now c.args.command.now c.step_table.result c.self.invariant c.keeps_well_formed.ensures c.step_table.ensures.ok c.step_table.ensures.err
