use Rattle.std.proofs.Common.{refl, inl, inr, sym, subst}
use Rattle.session_laws.specs.line_io.Reading.{coming}
use Rattle.session_laws.specs.line_io.Streams.{stream_of}
use Rattle.session_laws.proofs.Drawing.{named_nothing}
use Rattle.session_laws.specs.Runs.{outside_of}
use Rattle.setup_runs.specs.Migrate.{MigratedUnder}
use Rattle.setup_runs.proofs.Beginning.{held, has_password}
use Rattle.setup_runs.proofs.migrate.run_migrate.Goals as goal

pub returns-in-Err-clause-migrated : goal.returns-in-Err-clause-migrated
returns-in-Err-clause-migrated g c = inl (record { cause = c.in-Err.ensures.unread; uncalled = record { same_vault = refl; same_keeper = refl }; unwritten = (refl, refl) })

pub returns-clause-migrated : goal.returns-clause-migrated
returns-clause-migrated g c =
    let r = c.in-Ok-read_password.ensures.read in
    let h = held c.line.result _ c.unwrap_or-password.result c.in-Ok-read_password.reader.line r.1 c.line.ensures r.2.held c.unwrap_or-password.ensures in
    inr (
      r.1,
      coming c.in-Ok-read_password.reader.ahead (g.I.Source.rest c.read_password.new.input),
      has_password _ _ r.0 r.1 r.2,
      r.2.stands.quiet,
      subst (λ p. MigratedUnder g.V.Vault.trace g.V.Vault.faults g.K.Keeper p (stream_of g.O.Sink.written g.O.Sink.faults c.args.output.now c.migrate_under.new.output) c.args.storage.vault c.args.storage.keeper c.migrate_under.result) (sym h) c.migrate_under.ensures.migrated,
    )

-- ---- what is drawn

pub returns-in_default-clause-drawn : goal.returns-in_default-clause-drawn
returns-in_default-clause-drawn g c = named_nothing (g.R.Rng.stream c.args.chance.now) (outside_of g.V.Vault.trace g.V.Vault.faults g.K.Keeper c.args.storage.vault c.args.storage.keeper)

pub returns-in-Err-clause-drawn : goal.returns-in-Err-clause-drawn
returns-in-Err-clause-drawn g c = named_nothing (g.R.Rng.stream c.args.chance.now) (outside_of g.V.Vault.trace g.V.Vault.faults g.K.Keeper c.args.storage.vault c.args.storage.keeper)

pub returns-clause-drawn : goal.returns-clause-drawn
returns-clause-drawn g c = c.migrate_under.ensures.drawn
