use Rattle.check_rules.proofs.Walking.{agrees_self}
use Rattle.check_rules.proofs.law.given_agrees.Goals as goal

pub returns : goal.returns
returns c given alone = agrees_self given alone
