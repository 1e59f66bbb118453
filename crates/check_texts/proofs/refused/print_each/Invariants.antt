-- the lines of the blocks so far were printed, or wait
use Rattle.std.proofs.Common.{take}
use Rattle.std.specs.List.{flat_map}
use Rattle.copy_sessions.specs.line_io.Streams.{stream_of}
use Rattle.check_texts.specs.Printing.{Passes}
use Rattle.check_texts.specs.Refusals.{ungiven_line}
use Rattle.check_texts.proofs.refused.print_each.Given as goal

abbrev pub invariant-loop-block : goal.invariant-loop-block
invariant-loop-block g l = Passes (stream_of g.O.Sink.written g.O.Sink.faults l.initial.output l.output) l.initial.page (flat_map ungiven_line (take l.block-index l.ungiven)) l.page
