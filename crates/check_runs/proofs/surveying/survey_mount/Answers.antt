use Rattle.std.proofs.Common.{subst}
use Rattle.check_runs.specs.Surveying.{SurveysIf}
use Rattle.check_runs.proofs.Looking.{looked}
use Rattle.check_runs.proofs.surveying.survey_mount.Goals as goal

pub returns : goal.returns
returns g c =
    let z = c.close-closing.ensures in
    let s = c.survey_if-end in
    record {
      judged = c.judge-verdict.new.examined;
      judges = c.judge-verdict.ensures;
      surveyed = s.new.examined;
      surveys = subst (λ b. SurveysIf g.V.Vault.trace g.V.Vault.faults g.K.Keeper b c.judge-verdict.new.examined s.new.examined s.new.ungiven.items s.result) c.needs_survey.ensures s.ensures;
      closed = record { leaves = z.leaves; closes = z.closes };
    }

pub close-closing-requires : goal.close-closing-requires
close-closing-requires g c =
    let s = c.survey_if-end in
    let l = looked g.V.Vault.trace g.V.Vault.faults g.K.Keeper c.judge-verdict.new.examined s.new.examined s.new.ungiven.items s.result c.needs_survey.result c.judge-verdict.ensures.ready s.ensures in
    record { ready = l.ready }
