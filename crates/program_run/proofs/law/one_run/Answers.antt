use Rattle.program_run.proofs.One.{one, other}
use Rattle.program_run.proofs.law.one_run.Goals as goal

pub returns : goal.returns
returns g c =
    let trace = g.V.Vault.trace in
    let faults = g.V.Vault.faults in
    let names = g.V.Listing.names in
    λ call h. (one trace faults names g.K.Keeper call h, other trace faults names g.K.Keeper call h)
