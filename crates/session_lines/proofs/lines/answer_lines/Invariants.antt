use Rattle.std.proofs.Common.{◌≡◌, ◌≤◌, List, true}
use Rattle.outside.specs.Streams.{Ends}
use Rattle.line_io.specs.Reading.{coming, total, remaining}
use Rattle.answers.specs.Sessions.{Exchange}
use Rattle.session_lines.proofs.Serving.{Turned}
use Rattle.session_lines.proofs.lines.answer_lines.Given as goal

abbrev pub invariant-turns : goal.invariant-turns
invariant-turns g l = record {
  ready : g.H.Host.hosting.ready l.host;
  turned : (es : List Exchange) × Turned g.H.Host.hosting l.now l.initial.host l.host (coming l.initial.reader.ahead (g.I.Source.rest l.initial.input))
      (coming l.reader.ahead (g.I.Source.rest l.input)) (g.O.Sink.written l.initial.output) (g.O.Sink.written l.output)
      (g.I.Source.faults l.initial.input) (g.I.Source.faults l.input) (g.O.Sink.faults l.initial.output) (g.O.Sink.faults l.output) es;
  ended : l.reader.ended ≡ true → Ends (coming l.reader.ahead (g.I.Source.rest l.input));
  counted : total l.reader.taken (g.I.Source.rest l.input) ≡ total l.initial.reader.taken (g.I.Source.rest l.initial.input);
  input : g.I.Source.faults l.initial.input ≤ g.I.Source.faults l.input;
  output : g.O.Sink.faults l.initial.output ≤ g.O.Sink.faults l.output;
  chance : g.H.Host.hosting.chance l.host ≡ g.H.Host.hosting.chance l.initial.host;
}

abbrev pub decreases-turns : goal.decreases-turns
decreases-turns g l = remaining l.reader
