use Rattle.check_runs.proofs.Looking.{place_none, place_all}
use Rattle.check_runs.proofs.surveying.place.Goals as goal

pub returns-in-Err : goal.returns-in-Err
returns-in-Err g c = place_none g.V.Vault.trace g.V.Vault.faults g.K.Keeper c.args.examined.now c.args.ungiven.now.items c.requires

pub returns : goal.returns
returns g c =
    let e = c.find_paths.ensures in
    place_all g.V.Vault.trace g.V.Vault.faults g.K.Keeper c.args.examined.now c.find_paths.new.store c.args.ungiven.now.items c.find_paths.new.ungiven.items e.surveys e.same
