use Rattle.std.proofs.Common.{refl, inl, inr, sym, subst}
use Rattle.session_laws.specs.line_io.Reading.{coming}
use Rattle.session_laws.specs.line_io.Streams.{stream_of}
use Rattle.setup_runs.specs.Create.{IsCreated}
use Rattle.setup_runs.proofs.Beginning.{held, has_password, unread_causes}
use Rattle.setup_runs.proofs.create.run_create.Goals as goal

pub returns-in-Err-clause-created : goal.returns-in-Err-clause-created
returns-in-Err-clause-created g c = inl (record { cause = c.in-Err.ensures.unread; uncalled = record { same_vault = refl; same_keeper = refl }; unwritten = (refl, refl) })

pub returns-in-Err-clause-causes : goal.returns-in-Err-clause-causes
returns-in-Err-clause-causes g c = unread_causes _ _ c.in-Err.status c.in-Err.ensures.unread

pub returns-clause-created : goal.returns-clause-created
returns-clause-created g c =
    let r = c.in-Ok.ensures.read in
    let h = held c.line.result _ c.unwrap_or-password.result c.in-Ok.reader.line r.1 c.line.ensures r.2.held c.unwrap_or-password.ensures in
    inr (
      r.1,
      coming c.in-Ok.reader.ahead (g.I.Source.rest c.read_password.new.input),
      has_password _ _ r.0 r.1 r.2,
      r.2.stands.quiet,
      subst (λ p. IsCreated g.V.Vault.trace g.V.Vault.faults g.K.Keeper c.args.params.now c.args.block_size (g.R.Rng.stream c.args.chance.now) (g.R.Rng.stream c.create_under.new.chance) p
          (stream_of g.O.Sink.written g.O.Sink.faults c.args.output.now c.create_under.new.output) c.args.storage.vault c.args.storage.keeper c.create_under.result) (sym h) c.create_under.ensures.created,
    )
