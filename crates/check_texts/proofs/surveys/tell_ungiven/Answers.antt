use Rattle.std.proofs.Common.{subst}
use Rattle.copy_sessions.specs.line_io.Streams.{stream_of}
use Rattle.check_texts.proofs.Surveyed.{failed_told, first_failed, memory_told, rest_failed, rest_wanting}
use Rattle.check_texts.specs.Printing.{IsCut}
use Rattle.check_texts.specs.Refusals.{first_text, rest_text}
use Rattle.check_texts.specs.declared.error.PrintError.{PrintError}
use Rattle.check_texts.proofs.surveys.tell_ungiven.Goals as goal

pub returns-in-Err-clause-told : goal.returns-in-Err-clause-told
returns-in-Err-clause-told g c =
    first_failed c.args.verdict.now c.args.ungiven.now c.args.end.now (stream_of g.O.Sink.written g.O.Sink.faults c.args.output.now c.print_first.new.output) c.in-Err._failed c.in-Err.ensures.failed c.in-Err.ensures.printed

pub returns-in-Err-Memory-clause-told : goal.returns-in-Err-Memory-clause-told
returns-in-Err-Memory-clause-told g c =
    memory_told c.args.verdict.now c.args.ungiven.now c.args.end.now (stream_of g.O.Sink.written g.O.Sink.faults c.args.output.now c.print_ungiven.new.output)
    (rest_wanting _ _ _ _ _ _ (first_text c.args.verdict.now) (rest_text c.args.ungiven.now c.args.end.now) c.print_first.new.page c.print_ungiven.new.page tt c.in-Ok.ensures.printed
    (subst (λ (e : PrintError). IsCut (stream_of g.O.Sink.written g.O.Sink.faults c.print_first.new.output c.print_ungiven.new.output) (rest_text c.args.ungiven.now c.args.end.now) e) c.in-Err-Memory.field-0-is c.in-Err-Memory.ensures.printed))

pub returns-in-Err-Failed-clause-told : goal.returns-in-Err-Failed-clause-told
returns-in-Err-Failed-clause-told g c =
    failed_told c.args.verdict.now c.args.ungiven.now c.args.end.now (stream_of g.O.Sink.written g.O.Sink.faults c.args.output.now c.print_ungiven.new.output)
    (rest_failed _ _ _ _ _ _ (first_text c.args.verdict.now) (rest_text c.args.ungiven.now c.args.end.now) c.print_first.new.page c.print_ungiven.new.page tt c.in-Ok.ensures.printed
    (subst (λ (e : PrintError). IsCut (stream_of g.O.Sink.written g.O.Sink.faults c.print_first.new.output c.print_ungiven.new.output) (rest_text c.args.ungiven.now c.args.end.now) e) c.in-Err-Failed.field-0-is c.in-Err-Failed.ensures.printed))
