use Rattle.std.proofs.Common.{refl, inl, inr}
use Rattle.setup_runs.proofs.Anew.{leaves, status_so}
use Rattle.mount_calls.specs.mount_migrating.Migrating.{told}
use Rattle.session_laws.proofs.Drawing.{known_opened, named_closed}
use Rattle.session_laws.specs.mount_core.Showing.{ShowsFiles}
use Rattle.setup_runs.proofs.Drawing.{known_anew}
use Rattle.setup_runs.proofs.migrate.migrate_under.Goals as goal

pub returns-clause-migrated : goal.returns-clause-migrated
returns-clause-migrated g c =
    let e = c.end_session.ensures in
    let m = c.in-Ok.ensures in
    let d = c.migrate-migration.ensures in
    let end = c.print_migrated-end in
    inr (record {
      first = c.in-Ok.mount;
      begun = m.begun;
      migration = c.migrate-migration.result;
      left = c.migrate-migration.new.mount;
      migrates = d.migrates;
      end = end.result;
      reported = end.ensures.reported;
      closing = e.0;
      closed = e.2;
      status = status_so g.V.Vault.trace g.V.Vault.faults g.K.Keeper c.args.password.now c.args.vault c.args.keeper c.in-Ok.mount c.migrate-migration.new.mount c.migrate-migration.result e.0 c.end_session.result m.begun m.unmarked d.migrates d.ready e.2 end.result e.1;
      leaves = leaves g.V.Vault.trace g.V.Vault.faults g.K.Keeper c.args.password.now c.args.vault c.args.keeper c.in-Ok.mount c.migrate-migration.new.mount c.migrate-migration.result e.0 c.end_session.result m.begun m.unmarked d.migrates d.ready e.2;
    })

pub returns-in-Err-clause-migrated : goal.returns-in-Err-clause-migrated
returns-in-Err-clause-migrated g c = inl (c.in-Err.ensures.unopened, (refl, refl))

pub returns-clause-drawn : goal.returns-clause-drawn
returns-clause-drawn g c =
    let trace = g.V.Vault.trace in
    let faults = g.V.Vault.faults in
    let G = g.K.Keeper in
    let first = c.in-Ok.mount in
    let left = c.migrate-migration.new.mount in
    let m = c.in-Ok.ensures in
    let d = c.migrate-migration.ensures in
    let e = c.end_session.ensures in
    let stream = g.R.Rng.stream c.args.chance.now in
    let after = g.R.Rng.stream c.migrate-migration.new.chance in
    let known = known_anew trace G stream _ stream after first left (told c.migrate-migration.result) m.begun.opened.fresh d.migrates.violated d.draws
    (known_opened ShowsFiles trace faults G c.args.password.now c.args.vault c.args.keeper stream first m.begun m.sealed) in
    named_closed ShowsFiles trace faults G c.args.password.now c.args.vault c.args.keeper stream first m.begun m.sealed c.end_session.result.vault c.end_session.result.keeper after left e.0 e.2 known.far known.unnamed

pub returns-in-Err-clause-drawn : goal.returns-in-Err-clause-drawn
returns-in-Err-clause-drawn g c = c.in-Err.ensures.undrawn (g.R.Rng.stream c.args.chance.now)
