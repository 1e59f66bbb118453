use Rattle.std.proofs.Common.{refl, inl, inr}
use Rattle.setup_runs.proofs.Telling.{told, told_causes}
use Rattle.setup_runs.proofs.info.tell_under.Goals as goal

pub returns-clause-told : goal.returns-clause-told
returns-clause-told g c =
    let e = c.end_run.ensures in
    let m = c.in-Ok.ensures in
    let p = c.print_info-printed.ensures.printed in
    inr (told g.V.Vault.trace g.V.Vault.faults g.K.Keeper c.args.password.now c.args.vault c.args.keeper c.in-Ok.mount e.0 c.end_run.result m.begun m.unmarked e.2 _ c.print_info-printed.result p e.1)

pub returns-clause-causes : goal.returns-clause-causes
returns-clause-causes g c =
    let e = c.end_run.ensures in
    let m = c.in-Ok.ensures in
    let p = c.print_info-printed.ensures.printed in
    told_causes g.V.Vault.trace g.V.Vault.faults g.K.Keeper c.args.password.now c.args.vault c.args.keeper c.in-Ok.mount e.0 c.end_run.result m.begun m.unmarked e.2 _ c.print_info-printed.result p e.1

pub returns-in-Err-clause-told : goal.returns-in-Err-clause-told
returns-in-Err-clause-told g c = inl (c.in-Err.ensures.unopened, (refl, refl))
