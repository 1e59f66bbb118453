use Rattle.std.proofs.Common.{◌∙◌, ap}
use Rattle.block_versions.specs.BlockRecords.{record_from}
use Rattle.block_versions.specs.Verdicts.{judged_by}
use Rattle.block_versions.proofs.Fronts.{front_judged}
use Rattle.block_versions.proofs.verdict.judge.Goals as goal

pub returns : goal.returns
returns c = λ size most whole fits is.
    c.judge_seen.ensures ∙ ap (judged_by record_from c.args.id.now.0 c.args.client c.args.known) is
    ∙ front_judged size most c.args.id.now.0 c.args.client c.args.known whole fits
