use Rattle.std.proofs.Common.{◌≡◌, ◌-◌}
use Rattle.copy_sessions.specs.line_io.Streams.{stream_of}
use Rattle.copy_file.proofs.Getting.{IsGotTo}
use Rattle.copy_file.proofs.get.get_file.Given as goal

abbrev pub invariant-loop-place : goal.invariant-loop-place
invariant-loop-place g l = record {
  ready : g.A.Asker.asking.ready l.asker;
  stops : g.A.Asker.asking.stops l.asker ≡ g.A.Asker.asking.stops l.initial.asker;
  got : IsGotTo g.A.Asker.asking l.initial.asker l.asker l.from l.place (stream_of g.O.Sink.written g.O.Sink.faults l.initial.output l.output);
}

abbrev pub decreases-loop-place : goal.decreases-loop-place
decreases-loop-place g l = 9223372036854775808 - l.place
