use Rattle.std.proofs.Common.{refl, ◌∙◌}
use Rattle.check_refused.proofs.Surveying.{surveys_none, surveys_then}
use Rattle.check_refused.proofs.finding.explore_places.Goals as goal

pub loop-number-init : goal.loop-number-init
loop-number-init g c = record { surveys = surveys_none g.met.B.Blocks.lawful c.args.store.now c.requires.intact; same = refl }

pub loop-number-preserved : goal.loop-number-preserved
loop-number-preserved g c =
    let inv = c.loop-number.invariant in
    record { surveys = surveys_then g.met.B.Blocks.lawful inv.surveys c.explore_blob.ensures.surveys; same = c.explore_blob.ensures.same ∙ inv.same }

pub returns-in_err-explore_blob-clause-surveys : goal.returns-in_err-explore_blob-clause-surveys
returns-in_err-explore_blob-clause-surveys g c = surveys_then g.met.B.Blocks.lawful c.loop-number.invariant.surveys c.explore_blob.ensures.surveys

pub returns-in_err-explore_blob-clause-same : goal.returns-in_err-explore_blob-clause-same
returns-in_err-explore_blob-clause-same g c = c.explore_blob.ensures.same ∙ c.loop-number.invariant.same
