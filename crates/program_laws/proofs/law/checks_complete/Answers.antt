use Rattle.program_laws.proofs.Checks.{check}
use Rattle.program_laws.proofs.law.checks_complete.Goals as goal

pub returns : goal.returns
returns g k input output vault keeper ended bytes c tree checked causes finds quiet =
    check g.V.Vault.trace g.V.Vault.faults g.V.Listing.names g.K.Keeper input output vault keeper ended bytes quiet c tree finds causes checked
