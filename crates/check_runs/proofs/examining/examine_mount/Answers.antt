use Rattle.std.proofs.Common.{subst}
use Rattle.check_runs.specs.Judging.{Settles}
use Rattle.check_runs.proofs.examining.examine_mount.Goals as goal

pub returns : goal.returns
returns g c =
    let z = c.close-closing.ensures in
    record {
      judged = c.judge-verdict.new.examined;
      judges = c.judge-verdict.ensures;
      settled = c.condemn_if.new.mount;
      settles = subst (λ b. Settles g.V.Vault.trace g.V.Vault.faults g.K.Keeper b c.judge-verdict.new.examined.mount c.condemn_if.new.mount) c.is_bad.ensures c.condemn_if.ensures.settles;
      closed = record { leaves = z.leaves; closes = z.closes };
    }
