-- the lines of the owners so far were printed, or wait
use Rattle.std.proofs.Common.{take}
use Rattle.std.specs.List.{flat_map}
use Rattle.copy_sessions.specs.line_io.Streams.{stream_of}
use Rattle.check_texts.specs.Printing.{Passes}
use Rattle.check_texts.specs.Texts.{owner_text}
use Rattle.check_texts.proofs.owners.print_each.Given as goal

abbrev pub invariant-loop-i : goal.invariant-loop-i
invariant-loop-i g l = Passes (stream_of g.O.Sink.written g.O.Sink.faults l.initial.output l.output) l.initial.page (flat_map owner_text (take l.i l.owners)) l.page
