use Rattle.std.proofs.Common.{◌≡◌, List, ℕ, ◌∙◌, refl, subst}
use Rattle.outside.specs.Streams.{appends}
use Rattle.line_io.specs.Streams.{Cut}
use Rattle.session_lines.proofs.single.answer_single.Goals as goal

pub returns-in-Ok-clause-answered : goal.returns-in-Ok-clause-answered
returns-in-Ok-clause-answered g c =
    let t = c.tell_line.ensures.told c.args.line.now c.short_line.ensures in
    let old = g.O.Sink.written c.args.output.now in
    let new = g.O.Sink.written c.write_all.new.output in (
      t.0,
      record {
        ran = (c.args.host.now, refl, t.1);
        written = (subst (λ (text : List ℕ). new ≡ appends old text) (c.as_slice.ensures ∙ t.2) c.in-Ok.ensures.ok, c.in-Ok.ensures.quiet);
      },
    )

pub returns-in-Err-clause-answered : goal.returns-in-Err-clause-answered
returns-in-Err-clause-answered g c =
    let t = c.tell_line.ensures.told c.args.line.now c.short_line.ensures in
    let old = g.O.Sink.written c.args.output.now in
    let new = g.O.Sink.written c.write_all.new.output in (
      t.0,
      record {
        ran = (c.args.host.now, refl, t.1);
        written = (subst (Cut old new) (c.as_slice.ensures ∙ t.2) c.in-Err.ensures.err, c.in-Err.ensures.cause);
      },
    )
