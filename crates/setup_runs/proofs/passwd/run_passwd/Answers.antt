use Rattle.std.proofs.Common.{refl, inl, inr, sym, subst}
use Rattle.session_laws.specs.line_io.Streams.{stream_of}
use Rattle.setup_runs.specs.Passwd.{ChangedUnder}
use Rattle.setup_runs.proofs.Beginning.{held, has_passwords, both_unread_causes}
use Rattle.setup_runs.proofs.passwd.run_passwd.Goals as goal

pub returns-in-Err-clause-changed : goal.returns-in-Err-clause-changed
returns-in-Err-clause-changed g c = inl (record { cause = c.in-Err.ensures.unread; uncalled = record { same_vault = refl; same_keeper = refl }; unwritten = (refl, refl) }, refl)

pub returns-in-Err-clause-causes : goal.returns-in-Err-clause-causes
returns-in-Err-clause-causes g c = both_unread_causes _ _ c.in-Err.status c.in-Err.ensures.unread

pub returns-clause-changed : goal.returns-clause-changed
returns-clause-changed g c =
    let r = c.in-Ok.ensures.read in
    let h = held c.line.result _ c.unwrap_or-new.result c.in-Ok.change.reader.line r.1 c.line.ensures r.2.held c.unwrap_or-new.ensures in
    let changed = subst (λ old. ChangedUnder g.V.Vault.trace g.V.Vault.faults g.K.Keeper old c.unwrap_or-new.result.now (g.R.Rng.stream c.args.chance.now) (g.R.Rng.stream c.change_under.new.chance)
    (stream_of g.O.Sink.written g.O.Sink.faults c.args.output.now c.change_under.new.output) c.args.storage.vault c.args.storage.keeper c.change_under.result) c.deref.ensures.value c.change_under.ensures.changed in
    inr (
      c.in-Ok.change.old.items,
      r.1,
      has_passwords _ _ r.0 c.in-Ok.change.old.items r.1 r.2,
      r.2.stands.quiet,
      subst (λ new. ChangedUnder g.V.Vault.trace g.V.Vault.faults g.K.Keeper c.in-Ok.change.old.items new (g.R.Rng.stream c.args.chance.now) (g.R.Rng.stream c.change_under.new.chance)
          (stream_of g.O.Sink.written g.O.Sink.faults c.args.output.now c.change_under.new.output) c.args.storage.vault c.args.storage.keeper c.change_under.result) (sym h) changed,
    )
