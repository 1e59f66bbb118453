use Rattle.check_rules.proofs.Walking.{walk_flaw}
use Rattle.check_rules.proofs.law.walk_flaw_is_flaw.Goals as goal

pub returns : goal.returns
returns c payload root live G path kind id parent marks held flaw reached others found = walk_flaw payload root live G path kind id parent marks held reached others flaw found
