use Rattle.std.proofs.Common.{subst}
use Rattle.copy_row.specs.host_folder.Folders.{HostPath}
use Rattle.copy_times.specs.declared.paths.TheConstants.{MOST_DEEP}
use Rattle.copy_times.specs.Taking.{TookBelow}
use Rattle.copy_times.proofs.outward.carry_out.Goals as goal

pub returns-clause-took : goal.returns-clause-took
returns-clause-took g c =
    subst (λ (z : HostPath). TookBelow g.A.Asker.asking c.args.asker.now c.take_below.new.asker (g.F.Attributed.attributes c.args.host.now) (g.F.Attributed.attributes c.take_below.new.host) z c.args.source.now MOST_DEEP c.take_below.result)
    c.root-root.ensures c.take_below.ensures.took
