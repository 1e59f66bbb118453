use Rattle.program_laws.proofs.Migrations.{migrate}
use Rattle.program_laws.proofs.law.migrations_complete.Goals as goal

pub returns : goal.returns
returns g k input output vault keeper ended bytes c tree migrated finds quiet =
    migrate g.V.Vault.trace g.V.Vault.faults g.K.Keeper input output vault keeper ended bytes quiet c tree finds migrated
