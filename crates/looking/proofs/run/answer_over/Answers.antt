use Rattle.std.proofs.Common.{◌∙◌, ap}
use Rattle.session_laws.specs.line_io.Streams.{stream_of}
use Rattle.looking.proofs.Running.{answered}
use Rattle.looking.proofs.run.answer_over.Goals as goal

pub returns-clause-answered : goal.returns-clause-answered
returns-clause-answered g c =
    let one = c.answer_single-end in
    answered g.V.Vault.trace g.V.Vault.faults c.args.now c.args.line.now c.args.looked one.new.host (stream_of g.O.Sink.written g.O.Sink.faults c.args.output.now one.new.output) one.result c.requires.fresh one.ensures.answered
    c.session_status.result c.into_vault.result c.session_status.ensures
    (c.into_vault.ensures ∙ (ap (λ s. s.sealed.vault.vault) c.into_store-store.ensures ∙ ap (λ t. t.store.sealed.vault.vault) c.into_tx.ensures))
