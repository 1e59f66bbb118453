use Rattle.std.proofs.Common.{refl, inl, inr}
use Rattle.setup_runs.proofs.Changing.{changed, caused}
use Rattle.setup_runs.proofs.Sealing.{seals_changed}
use Rattle.setup_runs.proofs.passwd.change_under.Goals as goal

pub returns-clause-changed : goal.returns-clause-changed
returns-clause-changed g c =
    let e = c.end_run.ensures in
    let m = c.in-Ok.ensures in
    let n = c.change_password-change.ensures in
    inr (changed g.V.Vault.trace g.V.Vault.faults g.K.Keeper c.args.old.now c.args.new.now (g.R.Rng.stream c.args.chance.now) (g.R.Rng.stream c.change_password-change.new.chance) c.args.vault c.args.keeper
    c.in-Ok.mount c.change_password-change.new.mount c.change_password-change.result e.0 c.end_run.result m.begun m.unmarked e.2 n.moves.fresh n.moves.opened n.moves.leaves.goes_on n.changes.ok
    c.report_changed-reported.result _ e.1 c.report_changed-reported.ensures.reports n.draws n.changes.stands n.changes.configures n.changes.opens n.changes.holds n.changes.emptied n.changes.keeps n.moves.leaves.identity n.moves.leaves.stays.version n.moves.leaves.least n.moves.least n.moves.leaves.vault_quiet n.moves.leaves.keeper_quiet
    (seals_changed g.V.Vault.trace g.V.Vault.faults g.K.Keeper c.args.old.now c.args.vault c.args.keeper (g.R.Rng.stream c.args.chance.now) c.in-Ok.mount m.begun m.sealed _ c.change_password-change.new.mount c.end_run.result.vault c.end_run.result.keeper e.0 e.2 n.moves.fresh n.changes.keeps n.changes.sealed))

pub returns-clause-causes : goal.returns-clause-causes
returns-clause-causes g c =
    let e = c.end_run.ensures in
    let m = c.in-Ok.ensures in
    let n = c.change_password-change.ensures in
    caused g.V.Vault.trace g.V.Vault.faults g.K.Keeper c.args.old.now c.args.new.now (g.R.Rng.stream c.args.chance.now) (g.R.Rng.stream c.change_password-change.new.chance) c.args.vault c.args.keeper
    c.in-Ok.mount c.change_password-change.new.mount c.change_password-change.result e.0 c.end_run.result m.begun m.unmarked e.2 n.moves.fresh n.moves.opened n.moves.leaves.goes_on n.changes.ok
    c.report_changed-reported.result _ e.1 c.report_changed-reported.ensures.reports n.moves.leaves.vault_grows n.moves.leaves.vault_cause n.moves.leaves.keeper_grows n.moves.leaves.keeper_cause

pub returns-in-Err-clause-changed : goal.returns-in-Err-clause-changed
returns-in-Err-clause-changed g c = inl (c.in-Err.ensures.unopened, (refl, refl), refl)
