use Rattle.std.proofs.Common.{◌∙◌}
use Rattle.check_refused.proofs.Surveying.{surveys_none, surveys_then}
use Rattle.check_refused.proofs.exploring.explore_blob.Goals as goal

pub loop-turn-init : goal.loop-turn-init
loop-turn-init g c = record { surveys = surveys_none g.met.B.Blocks.lawful c.args.store.now c.requires.intact; same = c.name_block.ensures.same }

pub loop-turn-preserved : goal.loop-turn-preserved
loop-turn-preserved g c =
    let inv = c.loop-turn.invariant in
    record { surveys = surveys_then g.met.B.Blocks.lawful inv.surveys c.explore_node.ensures.surveys; same = c.explore_node.ensures.same ∙ inv.same }

pub returns-in_err-explore_node-clause-surveys : goal.returns-in_err-explore_node-clause-surveys
returns-in_err-explore_node-clause-surveys g c = surveys_then g.met.B.Blocks.lawful c.loop-turn.invariant.surveys c.explore_node.ensures.surveys

pub returns-in_err-explore_node-clause-same : goal.returns-in_err-explore_node-clause-same
returns-in_err-explore_node-clause-same g c = c.explore_node.ensures.same ∙ c.loop-turn.invariant.same
