use Rattle.mount.specs.mount_core.Showing.{ShowsFiles}
use Rattle.session_laws.proofs.Forged.{right}
use Rattle.session_laws.proofs.forgeries.replies_stay_right.Goals as goal

pub returns : goal.returns
returns g k password vault last_vault keeper last_keeper closing es m c first opens =
    right ShowsFiles g.V.Vault.trace g.V.Vault.faults g.K.Keeper password vault last_vault keeper last_keeper closing es m c first opens
