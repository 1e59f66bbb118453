use Rattle.std.proofs.Common.{refl, inl, inr, sym, subst}
use Rattle.check_texts.specs.line_io.Reading.{coming}
use Rattle.check_texts.specs.line_io.Streams.{stream_of}
use Rattle.setup_runs.proofs.Beginning.{held, has_password, unread_causes}
use Rattle.check_runs.specs.SurveyRuns.{SurveyedUnder}
use Rattle.check_runs.proofs.survey_run.run_survey.Goals as goal

pub returns-in-Err-read_password-clause-surveyed : goal.returns-in-Err-read_password-clause-surveyed
returns-in-Err-read_password-clause-surveyed g c = inl (record { cause = c.in-Err-read_password.ensures.unread; uncalled = record { same_vault = refl; same_keeper = refl }; unwritten = (refl, refl) })

pub returns-in-Err-read_password-clause-causes : goal.returns-in-Err-read_password-clause-causes
returns-in-Err-read_password-clause-causes g c = unread_causes _ _ c.in-Err-read_password.status c.in-Err-read_password.ensures.unread

pub returns-clause-surveyed : goal.returns-clause-surveyed
returns-clause-surveyed g c =
    let r = c.in-Ok-read_password.ensures.read in
    let h = held c.line.result _ c.unwrap_or-password.result c.in-Ok-read_password.reader.line r.1 c.line.ensures r.2.held c.unwrap_or-password.ensures in
    inr (
      r.1,
      coming c.in-Ok-read_password.reader.ahead (g.I.Source.rest c.read_password.new.input),
      has_password _ _ r.0 r.1 r.2,
      r.2.stands.quiet,
      subst (λ p. SurveyedUnder g.V.Vault.trace g.V.Vault.faults g.V.Listing.names g.K.Keeper p (stream_of g.O.Sink.written g.O.Sink.faults c.args.output.now c.tell_under.new.output) c.args.storage.vault c.args.storage.keeper c.tell_under.result) (sym h) c.tell_under.ensures.surveyed,
    )
