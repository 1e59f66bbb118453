use Rattle.std.proofs.Common.{map}
use Rattle.clients_core.specs.Versions.{version_of}
use Rattle.clients_core.proofs.Listed.{listed_no_own}
use Rattle.clients_core.proofs.seen.Seen.of.Goals as goal

pub returns-clause-foreign : goal.returns-clause-foreign
returns-clause-foreign c = λ fits. listed_no_own c.args.own (map version_of c.args.others.now) c.in_ok-others.others c.in_ok-others.ensures fits
