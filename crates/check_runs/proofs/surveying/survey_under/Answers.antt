use Rattle.check_runs.proofs.SurveyWhole.{surveyed}
use Rattle.check_runs.proofs.surveying.survey_under.Goals as goal

pub returns-in-Ok-clause-surveyed : goal.returns-in-Ok-clause-surveyed
returns-in-Ok-clause-surveyed g c =
    let m = c.in-Ok.ensures in
    surveyed g.V.Vault.trace g.V.Vault.faults g.K.Keeper c.args.password.now c.args.vault c.args.keeper c.in-Ok.mount c.survey_mount.result m.begun m.unmarked c.survey_mount.ensures
