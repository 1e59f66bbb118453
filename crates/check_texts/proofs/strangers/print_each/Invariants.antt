-- the lines of the strangers so far were printed, or wait
use Rattle.std.proofs.Common.{take}
use Rattle.std.specs.List.{flat_map}
use Rattle.copy_sessions.specs.line_io.Streams.{stream_of}
use Rattle.check_texts.specs.Printing.{Passes}
use Rattle.check_texts.specs.Strangers.{line_beside}
use Rattle.check_texts.proofs.strangers.print_each.Given as goal

abbrev pub invariant-loop-name : goal.invariant-loop-name
invariant-loop-name g l = Passes (stream_of g.O.Sink.written g.O.Sink.faults l.initial.output l.output) l.initial.page (flat_map (line_beside l.files) (take l.name-index l.names)) l.page
