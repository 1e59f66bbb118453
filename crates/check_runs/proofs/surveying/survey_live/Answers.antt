use Rattle.std.proofs.Common.{ap, ◌∙◌}
use Rattle.check_walk.specs.data_nodes.Layout.{ids_of}
use Rattle.check_runs.proofs.Looking.{surveyed_none, surveyed_all}
use Rattle.check_runs.proofs.surveying.survey_live.Goals as goal

pub returns-in-Err : goal.returns-in-Err
returns-in-Err g c = surveyed_none g.V.Vault.trace g.V.Vault.faults g.K.Keeper c.args.examined.now c.args.ungiven.now.items _ c.requires.none c.requires.ready

pub returns : goal.returns
returns g c =
    let e = c.survey_blocks.ensures in
    surveyed_all g.V.Vault.trace g.V.Vault.faults g.K.Keeper c.args.examined.now c.survey_blocks.new.store c.survey_blocks.new.ungiven.items c.survey_blocks.result (ids_of c.deref.result.now)
    (ap ids_of c.deref.ensures.value ∙ c.in-Ok.ensures.ids) e.surveys e.surveyed e.cut e.counts e.calm
