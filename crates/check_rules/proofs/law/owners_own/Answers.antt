use Rattle.check_rules.proofs.Owning.{one_list}
use Rattle.check_rules.proofs.law.owners_own.Goals as goal

pub returns : goal.returns
returns c payload root live given one other first second = one_list payload root live given one other first second
