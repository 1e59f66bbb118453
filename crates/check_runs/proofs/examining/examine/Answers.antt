use Rattle.check_runs.proofs.Whole.{examined}
use Rattle.check_runs.proofs.examining.examine.Goals as goal

pub returns-in-Ok-clause-examined : goal.returns-in-Ok-clause-examined
returns-in-Ok-clause-examined g c =
    let m = c.in-Ok.ensures in
    examined g.V.Vault.trace g.V.Vault.faults g.K.Keeper c.args.password.now c.args.vault c.args.keeper c.in-Ok.mount c.examine_mount.result m.begun m.unmarked c.examine_mount.ensures
