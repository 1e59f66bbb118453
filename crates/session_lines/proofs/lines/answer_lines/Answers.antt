use Rattle.std.proofs.Common.{[], refl, ◌∙◌, arith}
use Rattle.line_io.specs.Reading.{coming}
use Rattle.session_lines.proofs.Serving.{turned_none, turned_more, stops}
use Rattle.session_lines.proofs.lines.answer_lines.Goals as goal

pub turns-init : goal.turns-init
turns-init g c = record {
  ready = c.requires.ready;
  turned = ([], turned_none g.H.Host.hosting c.args.now c.args.host.now _ _ _ _);
  ended = c.requires.ended;
  counted = refl;
  input = omega arith;
  output = omega arith;
  chance = refl;
}

pub turns-preserved : goal.turns-preserved
turns-preserved g c =
    let i = c.turns.invariant in
    let a = c.in-None.ensures in
    record {
      ready = a.ready;
      turned = turned_more g.H.Host.hosting c.args.now _ _ _ _ _ _ (g.I.Source.rest c.turns.input) (g.I.Source.rest c.answer_next.new.input) _ _ _ _ _ _ _ _ _ i.turned.0 c.answer_next.new.text i.turned.1 a.turn;
      ended = a.nearer.ended;
      counted = a.counted ∙ i.counted;
      input = omega (arith, i.input, a.grows.input_grows);
      output = omega (arith, i.output, a.grows.output_grows);
      chance = a.chance ∙ i.chance;
    }

pub turns-smaller : goal.turns-smaller
turns-smaller g c = c.in-None.ensures.nearer.nearer

pub returns-in-Some-clause-served : goal.returns-in-Some-clause-served
returns-in-Some-clause-served g c =
    let i = c.turns.invariant in
    let a = c.in-Some.ensures in
    let rest = g.I.Source.rest in
    let written = g.O.Sink.written in
    let new = c.answer_next.new in
    stops g.H.Host.hosting c.args.now c.args.host.now c.turns.host new.host
    (coming c.args.reader.now.ahead (rest c.args.input.now)) (coming c.turns.reader.ahead (rest c.turns.input)) (coming new.reader.ahead (rest new.input))
    c.args.reader.now.taken c.turns.reader.taken new.reader.taken
    (rest c.args.input.now) (rest c.turns.input) (rest new.input)
    (written c.args.output.now) (written c.turns.output) (written new.output)
    (g.I.Source.faults c.args.input.now) (g.I.Source.faults c.turns.input) (g.I.Source.faults new.input)
    (g.O.Sink.faults c.args.output.now) (g.O.Sink.faults c.turns.output) (g.O.Sink.faults new.output)
    i.turned.0 new.text c.in-Some.end i.turned.1 a.turn a.counted i.counted
