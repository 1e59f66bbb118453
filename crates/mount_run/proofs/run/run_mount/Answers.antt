use Rattle.std.proofs.Common.{refl}
use Rattle.session_laws.specs.line_io.Streams.{stream_of}
use Rattle.mount_run.specs.Coming.{ComesMount}
use Rattle.mount_run.proofs.Sessions.{session_faults, session_refusal, session_alarm, session_keeps, session_emptied, session_history}
use Rattle.mount_run.proofs.run.run_mount.Goals as goal

pub returns-clause-history : goal.returns-clause-history
returns-clause-history g c =
    let input = stream_of g.I.Source.rest g.I.Source.faults c.args.input.now c.run_session.new.input in
    let output = stream_of g.O.Sink.written g.O.Sink.faults c.args.output.now c.run_session.new.output in
    session_history g.V.Vault.trace g.V.Vault.faults g.K.Keeper (ComesMount input output) input output c.args.storage.vault c.args.storage.keeper c.run_session.result c.run_session.ensures.session

pub returns-clause-refusal : goal.returns-clause-refusal
returns-clause-refusal g c marked =
    let input = stream_of g.I.Source.rest g.I.Source.faults c.args.input.now c.run_session.new.input in
    let output = stream_of g.O.Sink.written g.O.Sink.faults c.args.output.now c.run_session.new.output in
    session_refusal g.V.Vault.trace g.V.Vault.faults g.K.Keeper (ComesMount input output) input output c.args.storage.vault c.args.storage.keeper c.run_session.result c.run_session.ensures.session marked

pub returns-clause-no_false_alarm : goal.returns-clause-no_false_alarm
returns-clause-no_false_alarm g c =
    let input = stream_of g.I.Source.rest g.I.Source.faults c.args.input.now c.run_session.new.input in
    let output = stream_of g.O.Sink.written g.O.Sink.faults c.args.output.now c.run_session.new.output in
    session_alarm g.V.Vault.trace g.V.Vault.faults g.K.Keeper (ComesMount input output) input output c.args.storage.vault c.args.storage.keeper c.run_session.result c.run_session.ensures.session

pub returns-clause-kept : goal.returns-clause-kept
returns-clause-kept g c =
    let input = stream_of g.I.Source.rest g.I.Source.faults c.args.input.now c.run_session.new.input in
    let output = stream_of g.O.Sink.written g.O.Sink.faults c.args.output.now c.run_session.new.output in
    session_keeps g.V.Vault.trace g.V.Vault.faults g.K.Keeper (ComesMount input output) input output c.args.storage.vault c.args.storage.keeper c.run_session.result c.run_session.ensures.session

pub returns-clause-done : goal.returns-clause-done
returns-clause-done g c e =
    let input = stream_of g.I.Source.rest g.I.Source.faults c.args.input.now c.run_session.new.input in
    let output = stream_of g.O.Sink.written g.O.Sink.faults c.args.output.now c.run_session.new.output in
    session_emptied g.V.Vault.trace g.V.Vault.faults g.K.Keeper (ComesMount input output) input output c.args.storage.vault c.args.storage.keeper c.run_session.result c.run_session.ensures.session e

pub returns-clause-faults_happened : goal.returns-clause-faults_happened
returns-clause-faults_happened g c =
    let input = stream_of g.I.Source.rest g.I.Source.faults c.args.input.now c.run_session.new.input in
    let output = stream_of g.O.Sink.written g.O.Sink.faults c.args.output.now c.run_session.new.output in
    session_faults g.V.Vault.trace g.V.Vault.faults g.K.Keeper (ComesMount input output) input output c.args.storage.vault c.args.storage.keeper c.run_session.result c.run_session.ensures.session

pub returns-clause-spares : goal.returns-clause-spares
returns-clause-spares g c = record { drawn = c.run_session.ensures.drawn; unhosted = c.run_session.ensures.uncopied refl }
