use Rattle.std.proofs.Common.{refl, inl, inr}
use Rattle.check_runs.proofs.Telling.{told}
use Rattle.check_runs.proofs.Leaving.{told_causes}
use Rattle.check_runs.proofs.running.check_under.Goals as goal

pub returns-clause-checked : goal.returns-clause-checked
returns-clause-checked g c =
    let t = c.tell_verdict-told in
    inr (told g.V.Vault.trace g.V.Vault.faults g.V.Listing.names g.K.Keeper c.args.password.now _ c.args.vault c.args.keeper c.in-Ok.examination t.new.vault c.or.result t.result c.closing_status.result
    c.in-Ok.ensures.examined t.ensures.told t.ensures.lists c.or.ensures c.closing_status.ensures)

pub returns-clause-causes : goal.returns-clause-causes
returns-clause-causes g c =
    let t = c.tell_verdict-told in
    told_causes g.V.Vault.trace g.V.Vault.faults g.V.Listing.names g.K.Keeper c.args.password.now _ c.args.vault c.args.keeper _
    (told g.V.Vault.trace g.V.Vault.faults g.V.Listing.names g.K.Keeper c.args.password.now _ c.args.vault c.args.keeper c.in-Ok.examination t.new.vault c.or.result t.result c.closing_status.result
    c.in-Ok.ensures.examined t.ensures.told t.ensures.lists c.or.ensures c.closing_status.ensures)

pub returns-in-Err-clause-checked : goal.returns-in-Err-clause-checked
returns-in-Err-clause-checked g c = inl (c.in-Err.ensures.unopened, (refl, refl))
