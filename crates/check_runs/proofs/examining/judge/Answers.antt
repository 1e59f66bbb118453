use Rattle.std.proofs.Common.{refl, ap, ◌∙◌}
use Rattle.check_walk.specs.data_nodes.Layout.{ids_of}
use Rattle.check_runs.proofs.Judging.{judged_none, judged_all}
use Rattle.check_runs.proofs.examining.judge.Goals as goal

pub returns-in-Err : goal.returns-in-Err
returns-in-Err g c = judged_none g.V.Vault.trace g.V.Vault.faults g.K.Keeper c.args.examined.now c.requires

pub returns : goal.returns
returns g c =
    let e = c.check.ensures in
    judged_all g.V.Vault.trace g.V.Vault.faults g.K.Keeper c.args.examined.now c.check.new.store c.check.result (ids_of c.deref.result.now) c.args.examined.now.mount.core.root.0
    (ap ids_of c.deref.ensures.value ∙ c.in-Ok.ensures.ids) refl e.outcome e.stays e.of_blocks e.asked e.yes e.no
