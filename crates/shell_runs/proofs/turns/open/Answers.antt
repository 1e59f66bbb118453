use Rattle.session_laws.proofs.mount_lemmas.Formats.{opened_level}
use Rattle.session_laws.proofs.Drawing.{named_unopened}
use Rattle.session_laws.proofs.Unopened.{unopened, caused}
use Rattle.mount_calls.specs.path_layer.Showing.{ShowsFiles}
use Rattle.shell_runs.proofs.turns.open.Goals as goal

pub returns-in-Ok-clause-begun : goal.returns-in-Ok-clause-begun
returns-in-Ok-clause-begun g c =
    let e = c.in-Ok.ensures in
    record {
      opened = e.opened;
      attached = e.attached;
      versions = e.versions;
      stands = e.stands;
      calls = e.calls;
      level = opened_level g.V.Vault.trace g.V.Vault.faults g.K.Keeper c.in-Ok.mount e.opened.ready e.opened.unchanged c.args.password.now (g.K.Keeper.kept c.args.keeper) _ _ _ e.attached;
    }

pub returns-in-Err-clause-unopened : goal.returns-in-Err-clause-unopened
returns-in-Err-clause-unopened g c =
    let h = c.in-Err.halted in
    (h.error, unopened g.V.Vault.trace g.V.Vault.faults g.K.Keeper c.args.password.now c.args.vault c.args.keeper h c.in-Err.ensures.halted c.opening_status.result c.opening_status.ensures c.in-Err.ensures.marked)

pub returns-in-Err-clause-causes : goal.returns-in-Err-clause-causes
returns-in-Err-clause-causes g c =
    let h = c.in-Err.halted in
    caused g.V.Vault.trace g.V.Vault.faults g.K.Keeper c.args.password.now c.args.vault c.args.keeper h c.in-Err.ensures.halted c.opening_status.result c.opening_status.ensures

pub returns-in-Err-clause-undrawn : goal.returns-in-Err-clause-undrawn
returns-in-Err-clause-undrawn g c stream =
    named_unopened ShowsFiles g.V.Vault.trace g.V.Vault.faults g.K.Keeper c.args.password.now c.args.vault c.args.keeper c.in-Err.halted stream c.in-Err.ensures.halted
