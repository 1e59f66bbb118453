use Rattle.std.specs.Prelude.{map, string_bytes}
use Rattle.std.proofs.Common.{Some, subst, sym}
use Rattle.copy_runs.specs.Copies.{Imports, Exports, ImportsTimes, ExportsTimes}
use Rattle.copy_runs.specs.shell_runs.Hosts.{host_of}
use Rattle.trial_runs.specs.line_io.Streams.{stream_of}
use Rattle.cryfs_shell.specs.Doing.{Did}
use Rattle.cryfs_shell.specs.Streams.{streams_of}
use Rattle.cryfs_shell.proofs.Copies.{host_session}
use Rattle.cryfs_shell.proofs.program.run_form.Goals as goal

pub returns-in-Import-clause-did : goal.returns-in-Import-clause-did
returns-in-Import-clause-did g c =
    let r = c.run_session-in-Import in
    let input = stream_of g.I.Source.rest g.I.Source.faults c.args.input.now r.new.input in
    let output = stream_of g.O.Sink.written g.O.Sink.faults c.args.output.now r.new.output in
    let host = host_of g.F.Folder.tree g.F.Attributed.attributes g.F.Folder.faults c.args.host.now r.new.host in
    let streams = streams_of input output host (g.R.Rng.stream c.args.chance.now) (g.R.Rng.stream r.new.chance) in
    subst (λ form. Did g.V.Vault.trace g.V.Vault.faults g.V.Listing.names g.K.Keeper (map string_bytes c.args.asked.words.now) c.args.asked.now streams c.args.storage.vault c.args.storage.keeper r.result (Some form))
    (sym c.in-Import.is)
    (host_session g.V.Vault.trace g.V.Vault.faults g.K.Keeper input c.args.storage.vault c.args.storage.keeper r.result
    (Imports c.args.asked.now c.in-Import.path host input output) output g.F.Folder.tree g.F.Attributed.attributes g.F.Folder.faults c.args.host.now r.new.host r.ensures.session r.ensures.unhosted)

pub returns-in-Export-clause-did : goal.returns-in-Export-clause-did
returns-in-Export-clause-did g c =
    let r = c.run_session-in-Export in
    let input = stream_of g.I.Source.rest g.I.Source.faults c.args.input.now r.new.input in
    let output = stream_of g.O.Sink.written g.O.Sink.faults c.args.output.now r.new.output in
    let host = host_of g.F.Folder.tree g.F.Attributed.attributes g.F.Folder.faults c.args.host.now r.new.host in
    let streams = streams_of input output host (g.R.Rng.stream c.args.chance.now) (g.R.Rng.stream r.new.chance) in
    subst (λ form. Did g.V.Vault.trace g.V.Vault.faults g.V.Listing.names g.K.Keeper (map string_bytes c.args.asked.words.now) c.args.asked.now streams c.args.storage.vault c.args.storage.keeper r.result (Some form))
    (sym c.in-Export.is)
    (host_session g.V.Vault.trace g.V.Vault.faults g.K.Keeper input c.args.storage.vault c.args.storage.keeper r.result
    (Exports c.args.asked.now c.in-Export.path host input output) output g.F.Folder.tree g.F.Attributed.attributes g.F.Folder.faults c.args.host.now r.new.host r.ensures.session r.ensures.unhosted)

pub returns-in-ImportTimes-clause-did : goal.returns-in-ImportTimes-clause-did
returns-in-ImportTimes-clause-did g c =
    let r = c.run_session-in-ImportTimes in
    let input = stream_of g.I.Source.rest g.I.Source.faults c.args.input.now r.new.input in
    let output = stream_of g.O.Sink.written g.O.Sink.faults c.args.output.now r.new.output in
    let host = host_of g.F.Folder.tree g.F.Attributed.attributes g.F.Folder.faults c.args.host.now r.new.host in
    let streams = streams_of input output host (g.R.Rng.stream c.args.chance.now) (g.R.Rng.stream r.new.chance) in
    subst (λ form. Did g.V.Vault.trace g.V.Vault.faults g.V.Listing.names g.K.Keeper (map string_bytes c.args.asked.words.now) c.args.asked.now streams c.args.storage.vault c.args.storage.keeper r.result (Some form))
    (sym c.in-ImportTimes.is)
    (host_session g.V.Vault.trace g.V.Vault.faults g.K.Keeper input c.args.storage.vault c.args.storage.keeper r.result
    (ImportsTimes c.args.asked.now c.in-ImportTimes.path host input output) output g.F.Folder.tree g.F.Attributed.attributes g.F.Folder.faults c.args.host.now r.new.host r.ensures.session r.ensures.unhosted)

pub returns-in-ExportTimes-clause-did : goal.returns-in-ExportTimes-clause-did
returns-in-ExportTimes-clause-did g c =
    let r = c.run_session-in-ExportTimes in
    let input = stream_of g.I.Source.rest g.I.Source.faults c.args.input.now r.new.input in
    let output = stream_of g.O.Sink.written g.O.Sink.faults c.args.output.now r.new.output in
    let host = host_of g.F.Folder.tree g.F.Attributed.attributes g.F.Folder.faults c.args.host.now r.new.host in
    let streams = streams_of input output host (g.R.Rng.stream c.args.chance.now) (g.R.Rng.stream r.new.chance) in
    subst (λ form. Did g.V.Vault.trace g.V.Vault.faults g.V.Listing.names g.K.Keeper (map string_bytes c.args.asked.words.now) c.args.asked.now streams c.args.storage.vault c.args.storage.keeper r.result (Some form))
    (sym c.in-ExportTimes.is)
    (host_session g.V.Vault.trace g.V.Vault.faults g.K.Keeper input c.args.storage.vault c.args.storage.keeper r.result
    (ExportsTimes c.args.asked.now c.in-ExportTimes.path host input output) output g.F.Folder.tree g.F.Attributed.attributes g.F.Folder.faults c.args.host.now r.new.host r.ensures.session r.ensures.unhosted)
