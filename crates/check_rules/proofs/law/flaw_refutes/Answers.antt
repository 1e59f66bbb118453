use Rattle.check_rules.proofs.Refuting.{refutes}
use Rattle.check_rules.proofs.law.flaw_refutes.Goals as goal

pub returns : goal.returns
returns c payload root live given flaw f = refutes payload root live given flaw f
