use Rattle.program_run.proofs.Formats.{begins_newest, list_takes}
use Rattle.program_run.proofs.law.newest_stays.Goals as goal

pub returns-clause-begins : goal.returns-clause-begins
returns-clause-begins g c = begins_newest g.V.Vault.trace g.V.Vault.faults g.V.Listing.names g.K.Keeper

pub returns-clause-stays : goal.returns-clause-stays
returns-clause-stays g c = list_takes g.V.Vault.trace g.V.Vault.faults g.V.Listing.names g.K.Keeper
