use Rattle.copy_file.specs.line_io.Reading.{coming}
use Rattle.copy_file.specs.line_io.Streams.{stream_of}
use Rattle.copy_file.proofs.Sessions.{put_from_start}
use Rattle.copy_runs.proofs.put.PutAsks.ask.Goals as goal

pub returns-clause-asked : goal.returns-clause-asked
returns-clause-asked g c =
    let told = c.put_told-end in
    let s = told.ensures.put in
    let reader = c.args.reader.now in
    let input = stream_of g.I.Source.rest g.I.Source.faults c.args.input.now told.new.input in
    let output = stream_of g.O.Sink.written g.O.Sink.faults c.args.output.now told.new.output in
    let script = coming reader.ahead input.old in (
      s.0,
      s.1,
      λ old faults e. (s.2, put_from_start c.args.self.path reader.taken script old input.old input.new faults input.faults input.risen output told.result.0 told.result.1 s.0 e.counted e.quiet s.3),
    )
