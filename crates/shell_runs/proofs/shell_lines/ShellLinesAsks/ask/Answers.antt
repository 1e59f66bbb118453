use Rattle.std.proofs.Common.{refl}
use Rattle.session_laws.specs.line_io.Reading.{coming}
use Rattle.session_laws.specs.line_io.Streams.{stream_of}
use Rattle.shell_runs.proofs.Ending.{from_start}
use Rattle.shell_runs.proofs.shell_lines.ShellLinesAsks.ask.Goals as goal

pub returns-clause-asked : goal.returns-clause-asked
returns-clause-asked g c =
    let lines = c.answer_lines-end in
    let s = lines.ensures.served in
    let reader = c.args.reader.now in
    let input = stream_of g.I.Source.rest g.I.Source.faults c.args.input.now lines.new.input in
    let output = stream_of g.O.Sink.written g.O.Sink.faults c.args.output.now lines.new.output in
    let script = coming reader.ahead input.old in (
      s.0,
      s.1,
      λ old faults e. (s.2, (from_start reader.taken script old input.old input.new faults input.faults input.risen output s.0 lines.result e.counted e.quiet s.3, refl)),
    )
