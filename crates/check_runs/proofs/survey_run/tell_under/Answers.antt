use Rattle.std.proofs.Common.{refl, inl, inr}
use Rattle.check_runs.proofs.Telling.{survey_told}
use Rattle.check_runs.proofs.SurveyLeaving.{survey_causes}
use Rattle.check_runs.proofs.survey_run.tell_under.Goals as goal

pub returns-clause-surveyed : goal.returns-clause-surveyed
returns-clause-surveyed g c =
    let t = c.tell_survey-told in
    inr (survey_told g.V.Vault.trace g.V.Vault.faults g.V.Listing.names g.K.Keeper c.args.password.now _ c.args.vault c.args.keeper c.in-Ok.survey t.new.vault c.deref.result.now c.or.result t.result c.closing_status.result
    c.in-Ok.ensures.surveyed c.deref.ensures.value t.ensures.told t.ensures.lists c.or.ensures c.closing_status.ensures)

pub returns-clause-causes : goal.returns-clause-causes
returns-clause-causes g c =
    let t = c.tell_survey-told in
    survey_causes g.V.Vault.trace g.V.Vault.faults g.V.Listing.names g.K.Keeper c.args.password.now _ c.args.vault c.args.keeper _
    (survey_told g.V.Vault.trace g.V.Vault.faults g.V.Listing.names g.K.Keeper c.args.password.now _ c.args.vault c.args.keeper c.in-Ok.survey t.new.vault c.deref.result.now c.or.result t.result c.closing_status.result
    c.in-Ok.ensures.surveyed c.deref.ensures.value t.ensures.told t.ensures.lists c.or.ensures c.closing_status.ensures)

pub returns-in-Err-clause-surveyed : goal.returns-in-Err-clause-surveyed
returns-in-Err-clause-surveyed g c = inl (c.in-Err.ensures.unopened, (refl, refl))
