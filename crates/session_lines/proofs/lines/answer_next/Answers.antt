use Rattle.std.proofs.Common.{◌≡◌, ◌∙◌, refl, rules}
use Rattle.outside.specs.Streams.{appends}
use Rattle.line_io.specs.Streams.{Cut}
use Rattle.line_io.proofs.Flow.{in_line}
use Rattle.session_lines.proofs.lines.answer_next.Goals as goal

pub returns-in-Ok-clause-turn : goal.returns-in-Ok-clause-turn
returns-in-Ok-clause-turn g c =
    let next = c.in-Ok-true.ensures in
    let took = next.line (search rules) in
    let written : g.O.Sink.written c.write_all.new.output ≡ appends (g.O.Sink.written c.args.output.now) c.tell_line.new.text = search rules in
    ((took.0, c.tell_line.ensures.told took.0 (c.line.ensures ∙ took.1), took.2), written, next.faults.quiet, c.in-Ok.ensures.quiet)

pub returns-in-Ok-clause-nearer : goal.returns-in-Ok-clause-nearer
returns-in-Ok-clause-nearer g c =
    let next = c.in-Ok-true.ensures in
    record { nearer = next.nearer (search rules); ended = next.notes.ended }

pub returns-in-Err-write_all-clause-turn : goal.returns-in-Err-write_all-clause-turn
returns-in-Err-write_all-clause-turn g c =
    let next = c.in-Ok-true.ensures in
    let took = next.line (search rules) in
    let cut : Cut (g.O.Sink.written c.args.output.now) (g.O.Sink.written c.write_all.new.output) c.tell_line.new.text = search rules in
    ((took.0, c.tell_line.ensures.told took.0 (c.line.ensures ∙ took.1), took.2), cut, c.in-Err-write_all.ensures.cause, next.faults.quiet)

pub returns-in-Err-clause-turn : goal.returns-in-Err-clause-turn
returns-in-Err-clause-turn g c =
    let next = c.in-Err.ensures in
    let shown = next.shows.unended in
    (refl, refl, next.faults.cause, refl, in_line c.args.reader.now.ahead shown.0 (g.I.Source.rest c.args.input.now) (g.I.Source.rest c.next_line.new.input) shown.1 shown.2)
