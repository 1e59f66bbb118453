use Rattle.answers.proofs.Running.{flags, refusals}
use Rattle.answers.proofs.law.refuses_after_violation.Goals as goal

pub returns : goal.returns
returns g c =
    let M = g.H.Host.hosting in
    let laws = g.met.H.Host.lawful in
    λ old es new r e. (flags M laws old es new r e, refusals M laws old es new r e)
