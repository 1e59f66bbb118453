use Rattle.workload.proofs.Numbered.{is_target-numbered}
use Rattle.std.proofs.Common.{arith}
use Rattle.workload.proofs.groups.symlink.Goals as goal

pub returns-clause-fits : goal.returns-clause-fits
returns-clause-fits c = rw (c.new-target.ensures, c.in_ok-numbered.ensures) (is_target-numbered 103 c.args.k (omega arith) c.ranges.k.fits)
