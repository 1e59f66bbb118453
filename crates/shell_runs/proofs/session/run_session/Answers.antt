use Rattle.std.proofs.Common.{refl, inr, rules}
use Rattle.session_laws.specs.line_io.Reading.{coming}
use Rattle.session_laws.specs.line_io.Streams.{stream_of}
use Rattle.session_laws.proofs.Drawing.{draws_nothing}
use Rattle.session_laws.specs.Drawing.{DrawsVectors}
use Rattle.session_laws.specs.Runs.{outside_of}
use Rattle.shell_runs.specs.Hosts.{host_of}
use Rattle.shell_runs.proofs.Ending.{has_password, halted, was_served, served, draws_served}
use Rattle.shell_runs.proofs.session.run_session.Goals as goal

pub returns-in-Err-open-clause-session : goal.returns-in-Err-open-clause-session
returns-in-Err-open-clause-session g c =
    let b = c.in-Ok in
    let r = b.ensures.read in
    let whole = stream_of g.I.Source.rest g.I.Source.faults c.args.input.now c.begin.new.input in
    let output = stream_of g.O.Sink.written g.O.Sink.faults c.args.output.now c.args.output.now in
    let has = has_password whole whole b.beginning.reader r.0 b.beginning.password.items c.deref.result.now refl r.1 c.deref.ensures.value in
    let Came = g.A.Asks.manner.Comes c.args.asks (host_of g.F.Folder.tree g.F.Attributed.attributes g.F.Folder.faults c.args.host.now c.args.host.now) whole output in
    halted g.V.Vault.trace g.V.Vault.faults g.K.Keeper Came whole output c.deref.result.now (coming b.beginning.reader.ahead whole.new) has c.args.storage.vault c.args.storage.keeper c.in-Err-open.ended
    c.in-Err-open.ensures.unopened r.1.stands.quiet (refl, refl)

pub returns-clause-unhosted : goal.returns-clause-unhosted
returns-clause-unhosted g c =
    let b = c.in-Ok in
    let r = b.ensures.read in
    let asked = c.ask-answered in
    let s = asked.ensures.asked in
    let begun = stream_of g.I.Source.rest g.I.Source.faults c.args.input.now c.begin.new.input in
    let whole = stream_of g.I.Source.rest g.I.Source.faults c.args.input.now asked.new.input in
    let output = stream_of g.O.Sink.written g.O.Sink.faults c.args.output.now asked.new.output in
    let has = has_password begun whole b.beginning.reader r.0 b.beginning.password.items c.deref.result.now refl r.1 c.deref.ensures.value in
    let script = coming b.beginning.reader.ahead begun.new in
    let Came = g.A.Asks.manner.Comes c.args.asks (host_of g.F.Folder.tree g.F.Attributed.attributes g.F.Folder.faults c.args.host.now asked.new.host) whole output in
    inr
    (was_served g.V.Vault.trace g.V.Vault.faults g.K.Keeper Came whole output c.deref.result.now script has c.args.storage.vault c.args.storage.keeper c.close.result g.R.Rng.stream
    (record { mount = c.in-Ok-open.mount; chance = record { ref_ptr = c.args.chance.ref_ptr; ghost_name = _; now = c.args.chance.now } }) asked.result.mounted s.0 asked.result.end asked.result.own
    asked.ensures.own c.in-Ok-open.ensures.begun asked.ensures.ready s.1 (s.2 begun.old begun.faults (record { counted = r.1.stands.counted; quiet = r.1.stands.quiet })) c.close.ensures)

pub returns-clause-session : goal.returns-clause-session
returns-clause-session g c =
    let b = c.in-Ok in
    let r = b.ensures.read in
    let asked = c.ask-answered in
    let s = asked.ensures.asked in
    let begun = stream_of g.I.Source.rest g.I.Source.faults c.args.input.now c.begin.new.input in
    let whole = stream_of g.I.Source.rest g.I.Source.faults c.args.input.now asked.new.input in
    let output = stream_of g.O.Sink.written g.O.Sink.faults c.args.output.now asked.new.output in
    let has = has_password begun whole b.beginning.reader r.0 b.beginning.password.items c.deref.result.now refl r.1 c.deref.ensures.value in
    let script = coming b.beginning.reader.ahead begun.new in
    let Came = g.A.Asks.manner.Comes c.args.asks (host_of g.F.Folder.tree g.F.Attributed.attributes g.F.Folder.faults c.args.host.now asked.new.host) whole output in
    served g.V.Vault.trace g.V.Vault.faults g.K.Keeper Came whole output c.args.storage.vault c.args.storage.keeper c.close.result
    (was_served g.V.Vault.trace g.V.Vault.faults g.K.Keeper Came whole output c.deref.result.now script has c.args.storage.vault c.args.storage.keeper c.close.result g.R.Rng.stream
    (record { mount = c.in-Ok-open.mount; chance = record { ref_ptr = c.args.chance.ref_ptr; ghost_name = _; now = c.args.chance.now } }) asked.result.mounted s.0 asked.result.end asked.result.own
    asked.ensures.own c.in-Ok-open.ensures.begun asked.ensures.ready s.1 (s.2 begun.old begun.faults (record { counted = r.1.stands.counted; quiet = r.1.stands.quiet })) c.close.ensures)

pub returns-clause-drawn : goal.returns-clause-drawn
returns-clause-drawn g c =
    let asked = c.ask-answered in
    let s = asked.ensures.asked in
    let outside = outside_of g.V.Vault.trace g.V.Vault.faults g.K.Keeper in
    let drawn : DrawsVectors (g.R.Rng.stream c.args.chance.now) (g.R.Rng.stream asked.result.mounted.chance.now) (outside c.args.storage.vault c.args.storage.keeper) (outside c.close.result.vault c.close.result.keeper) =
    draws_served g.R.Rng.stream g.V.Vault.trace g.V.Vault.faults g.K.Keeper c.deref.result.now c.args.storage.vault c.args.storage.keeper c.close.result asked.result.own asked.result.end
    (record { mount = c.in-Ok-open.mount; chance = record { ref_ptr = c.args.chance.ref_ptr; ghost_name = _; now = c.args.chance.now } }) asked.result.mounted s.0 c.in-Ok-open.ensures.begun c.in-Ok-open.ensures.sealed s.1 c.close.ensures in
    search (rules, drawn)

pub returns-in-Err-open-clause-drawn : goal.returns-in-Err-open-clause-drawn
returns-in-Err-open-clause-drawn g c = (c.in-Err-open.ensures.undrawn (g.R.Rng.stream c.args.chance.now)).vectors

pub returns-in-Err-clause-drawn : goal.returns-in-Err-clause-drawn
returns-in-Err-clause-drawn g c = draws_nothing (g.R.Rng.stream c.args.chance.now) (outside_of g.V.Vault.trace g.V.Vault.faults g.K.Keeper c.args.storage.vault c.args.storage.keeper)
