use Rattle.program_laws.proofs.Setups.{info, passwd, create}
use Rattle.program_laws.proofs.law.setups_complete.Goals as goal

pub returns-clause-info : goal.returns-clause-info
returns-clause-info g k input output vault keeper ended bytes c tree told finds quiet = info g.V.Vault.trace g.V.Vault.faults g.K.Keeper input output vault keeper ended bytes quiet c tree finds told

pub returns-clause-passwd : goal.returns-clause-passwd
returns-clause-passwd g k chance left input output vault keeper ended bytes c tree changed causes finds short quiet =
    passwd g.V.Vault.trace g.V.Vault.faults g.K.Keeper input output vault keeper ended bytes quiet c tree finds chance left causes short changed

pub returns-clause-create : goal.returns-clause-create
returns-clause-create g k cost block_size chance left input output vault keeper ended bytes created bare told short quiet =
    create g.V.Vault.trace g.V.Vault.faults g.K.Keeper input output vault keeper ended bytes quiet cost block_size chance left bare told short created
