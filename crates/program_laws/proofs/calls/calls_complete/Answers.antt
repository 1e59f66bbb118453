use Rattle.program_laws.proofs.MountCalls.{attached, synced, changed, closed, migrated}
use Rattle.program_laws.proofs.calls.calls_complete.Goals as goal

pub returns-clause-attach : goal.returns-clause-attach
returns-clause-attach g k password vault keeper result c tree attaches given honest quiet =
    attached g.V.Vault.trace g.V.Vault.faults g.K.Keeper password vault keeper c tree given result attaches honest quiet

pub returns-clause-sync : goal.returns-clause-sync
returns-clause-sync g k before after result kept present moves syncs stands quiet =
    synced g.V.Vault.trace g.V.Vault.faults g.K.Keeper before after result kept present moves syncs stands quiet

pub returns-clause-change_password : goal.returns-clause-change_password
returns-clause-change_password g k before after result password file kept present moves changes stands quiet =
    changed g.V.Vault.trace g.V.Vault.faults g.K.Keeper before after result password file kept present moves changes stands quiet

pub returns-clause-close : goal.returns-clause-close
returns-clause-close g k mount result vault keeper kept present leaves closes stands quiet =
    closed g.V.Vault.trace g.V.Vault.faults g.K.Keeper mount result vault keeper kept present leaves closes stands quiet

pub returns-clause-migrate : goal.returns-clause-migrate
returns-clause-migrate g k before after result kept present migrates stands quiet =
    migrated g.V.Vault.trace g.V.Vault.faults g.K.Keeper before after result kept present migrates stands quiet
