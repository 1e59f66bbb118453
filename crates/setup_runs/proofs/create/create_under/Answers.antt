use Rattle.setup_runs.proofs.Creating.{created_causes}
use Rattle.setup_runs.proofs.Sealing.{seals_first}
use Rattle.setup_runs.proofs.create.create_under.Goals as goal

pub returns-clause-created : goal.returns-clause-created
returns-clause-created g c =
    let m = c.create-made.ensures in
    record {
      made = c.create-made.result.0;
      reports = c.report_created.ensures.reports;
      stands = m.made;
      opens = m.opens;
      anew = m.anew;
      tells = m.tells;
      versions = m.first.versions;
      newest = m.first.newest;
      salt = m.first.salt;
      client = m.first.client;
      sealed = seals_first g.V.Vault.trace g.V.Vault.faults g.K.Keeper _ _ _ _ c.args.storage.vault c.create-made.result.1 c.args.storage.keeper c.create-made.result.2 m.seals;
    }

pub returns-clause-causes : goal.returns-clause-causes
returns-clause-causes g c =
    let m = c.create-made.ensures in
    created_causes _ _ _ _ _ _ _ _ c.create-made.result.0 _ c.report_created.result c.report_created.ensures.reports m.tells.cause m.tells.vault_faults.grows m.tells.keeper_faults.grows
