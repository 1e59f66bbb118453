use Rattle.check_runs.proofs.Looking.{then_placed}
use Rattle.check_runs.proofs.surveying.survey_places.Goals as goal

pub returns-in-Ok : goal.returns-in-Ok
returns-in-Ok g c =
    then_placed g.V.Vault.trace g.V.Vault.faults g.K.Keeper c.args.examined.now c.survey_live.new.examined c.place.new.examined c.survey_live.new.ungiven.items c.place.new.ungiven.items tt c.in-Ok.ensures c.place.ensures c.place.result
