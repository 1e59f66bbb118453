use Rattle.std.proofs.Common.{◌≡◌, List, ℕ, ◌++◌, length}
use Rattle.outside.specs.Streams.{appends}
use Rattle.line_io.proofs.writer.write_all.Given as goal

abbrev pub invariant-loop-rest : goal.invariant-loop-rest
invariant-loop-rest g l = record {
  written : (part : List ℕ) × (l.text ≡ part ++ l.rest) × (g.O.Sink.written l.output ≡ appends (g.O.Sink.written l.initial.output) part);
  quiet : g.O.Sink.faults l.output ≡ g.O.Sink.faults l.initial.output;
}

abbrev pub decreases-loop-rest : goal.decreases-loop-rest
decreases-loop-rest g l = length l.rest
