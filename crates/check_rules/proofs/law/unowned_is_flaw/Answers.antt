use Rattle.check_rules.proofs.Refuting.{has_unowned}
use Rattle.check_rules.proofs.law.unowned_is_flaw.Goals as goal

pub returns : goal.returns
returns c payload root live given blobs tree id stores shows lives none = has_unowned payload root live given blobs tree id stores shows lives none
