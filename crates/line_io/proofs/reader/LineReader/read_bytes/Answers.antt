use Rattle.std.proofs.Common.{rules, ◌≡◌, ℕ, List, ◌-◌, ◌≤◌, ◌++◌, length, take, drop, refl, ap, sym, subst, ◌∙◌, arith}
use Rattle.std.proofs.lemmas.List.{length-take, length-drop, length-append}
use Rattle.outside.specs.Streams.{WereTaken}
use Rattle.line_io.specs.Reading.{coming, total}
use Rattle.line_io.proofs.Flow.{WereTaken-nil}
use Rattle.line_io.proofs.Bytes.{read_on, Ends-behind, still_coming}
use Rattle.line_io.proofs.Progress.{on_err}
use Rattle.line_io.proofs.reader.LineReader.read_bytes.Goals as goal

pub loop-len-init : goal.loop-len-init
loop-len-init g c = record {
  room = omega arith;
  read = WereTaken-nil _ _ refl;
  line = refl;
  ended = c.requires;
  counted = refl;
  after_end = λ e. (refl, e);
  quiet = refl;
}

pub returns-in_err-look_ahead-clause-gone : goal.returns-in_err-look_ahead-clause-gone
returns-in_err-look_ahead-clause-gone g c =
    let a = c.in_err-look_ahead.ensures in
    let first = coming c.args.self.now.ahead (g.I.Source.rest c.args.input.now) in
    let now = coming c.look_ahead.new.self.ahead (g.I.Source.rest c.look_ahead.new.input) in
    let taken = take c.loop-len.len c.loop-len.piece in
    on_err c.from_residual.result ((part : List ℕ) × WereTaken first now part) (taken, subst (λ z. WereTaken first z taken) (sym (still_coming _ _ _ _ a.bytes.gave a.bytes.err)) c.loop-len.invariant.read)

pub returns-then-not-branch-clause-bytes : goal.returns-then-not-branch-clause-bytes
returns-then-not-branch-clause-bytes g c =
    let first = coming c.args.self.now.ahead (g.I.Source.rest c.args.input.now) in
    record {
      bound = search rules;
      read = subst (λ z. WereTaken first z (take c.loop-len.len c.loop-len.piece)) (sym c.in_ok-look_ahead.ensures.bytes.came) c.loop-len.invariant.read;
      short = search rules;
    }

pub loop-len-preserved : goal.loop-len-preserved
loop-len-preserved g c =
    let i = c.loop-len.invariant in
    let a = c.in_ok-look_ahead.ensures in
    let m = c.move_ahead.ensures in
    let size : ℕ = length c.loop-len.piece in
    let len : ℕ = c.loop-len.len in
    let n : ℕ = c.move_ahead.result in
    let left = drop len c.loop-len.piece in
    let post = drop (size - len) left in
    let new : length c.move_ahead.new.piece ≡ size - len = omega (arith, c.move_ahead.auto.piece, length-take (size - len) left, length-drop len c.loop-len.piece) in
    let whole = length-append (take len c.loop-len.piece) (c.move_ahead.new.piece ++ post) in
    let rest = length-append c.move_ahead.new.piece post in
    let front = length-take len c.loop-len.piece in
    let few : n ≤ length c.move_ahead.new.piece = m.bound in
    record {
      room = omega (arith, whole, rest, front, few, i.room);
      read = read_on (coming c.args.self.now.ahead (g.I.Source.rest c.args.input.now)) (coming c.loop-len.self.ahead (g.I.Source.rest c.loop-len.input)) (coming c.move_ahead.new.self.ahead (g.I.Source.rest c.look_ahead.new.input)) (g.I.Source.rest c.look_ahead.new.input)
          c.look_ahead.new.self.ahead c.move_ahead.new.self.ahead c.loop-len.piece c.move_ahead.new.piece post len n i.read a.bytes.came m.moved refl i.room few;
      line = m.line ∙ (a.line ∙ i.line);
      ended = λ e. Ends-behind _ _ _ _ m.moved (a.notes.ended (sym m.ended ∙ e));
      counted = ap (λ k. total k (g.I.Source.rest c.look_ahead.new.input)) m.taken ∙ (a.notes.counted ∙ i.counted);
      after_end = λ e.
          let before = i.after_end e in
          let late = a.source.after_end before.1 in (late.0 ∙ before.0, m.ended ∙ late.1);
      quiet = a.faults.quiet ∙ i.quiet;
    }
