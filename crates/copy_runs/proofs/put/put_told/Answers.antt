use Rattle.std.proofs.Common.{subst}
use Rattle.copy_file.specs.line_io.Reading.{coming}
use Rattle.copy_file.specs.line_io.Streams.{stream_of}
use Rattle.copy_file.specs.copy_sessions.Fitting.{WentBy}
use Rattle.copy_file.proofs.Sessions.{put_session}
use Rattle.shell_runs.specs.Mounting.{mounted_hosting}
use Rattle.copy_runs.proofs.Files.{put_own}
use Rattle.copy_runs.proofs.put.put_told.Goals as goal

pub returns-clause-own : goal.returns-clause-own
returns-clause-own g c =
    let output = stream_of g.O.Sink.written g.O.Sink.faults c.args.output.now c.tell_put.new.output in
    put_own c.put_file-put.result c.args.to c.put_file-put.new.asker.kept output c.tell_put.result.0 c.tell_put.result.1 c.tell_put.ensures.told

pub returns-clause-put : goal.returns-clause-put
returns-clause-put g c =
    let M = mounted_hosting g.R.Rng.stream g.V.Vault.trace g.V.Vault.faults g.K.Keeper in
    let a = c.args.asker.now in
    let b = c.put_file-put.new.asker in
    let r = c.put_file-put.ensures.put in
    let w = subst (λ z. WentBy M a.now a.mounted z r.qs b.mounted b.kept) c.requires.fresh.kept r.asked.went.2 in
    let input = stream_of g.I.Source.rest g.I.Source.faults c.args.input.now c.put_file-put.new.input in
    let output = stream_of g.O.Sink.written g.O.Sink.faults c.args.output.now c.tell_put.new.output in (
      w.es,
      w.ran,
      w.moments,
      put_session M a.now a.mounted b.mounted b.kept r.qs c.args.to c.args.reader.now.taken (coming c.args.reader.now.ahead (g.I.Source.rest c.args.input.now)) r.bytes
          c.put_file-put.result input output c.tell_put.result.0 c.tell_put.result.1 w r.told r.is c.put_file-put.ensures.input c.tell_put.ensures.told,
    )

pub returns-clause-chance : goal.returns-clause-chance
returns-clause-chance g c = c.put_file-put.ensures.put.asked.went.1
