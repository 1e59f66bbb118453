use Rattle.std.proofs.Common.{rules, ◌≡◌, ◌≤◌, ◌<◌, ◌+◌, ◌++◌, ℕ, List, [], length, ap, ◌∙◌, arith, sym, subst, length-append}
use Rattle.std.specs.declared.option.Option.{Option}
use Rattle.line_io.specs.Lines.{IsUnbroken, kept_on}
use Rattle.line_io.specs.Reading.{Reading, ShowsUnended, total, remaining}
use Rattle.line_io.proofs.Asking.{asked_more, asked_line, asked_none, asked_failed}
use Rattle.line_io.proofs.Progress.{Part, Part-ahead, Part-more, Taken, Taken-ahead, Taken-more, shown_cut, shown_whole, unended_whole, on_err, took_cut, took_last, at_true, at_false, at_not, Ends-less, Ends-rest}
use Rattle.line_io.proofs.reader.LineReader.next_line.Goals as goal

part_of_taken : (all first_rest : Option (List ℕ)) (first : List ℕ) (old new : Reading) (rest : Option (List ℕ)) (part : List ℕ) (n : ℕ) → Part all old.line old.ahead rest part
    → IsUnbroken old.ahead → new.ahead ≡ [] → new.line ≡ kept_on old.line old.ahead → new.taken ≡ old.taken → 0 < length old.ahead
    → length part + remaining old ≤ n → Taken first old.ahead first_rest rest part
    → (part : List ℕ) × Part all new.line new.ahead rest part × (0 < length part) × (length part + remaining new ≤ n) × Taken first new.ahead first_rest rest part
part_of_taken all first_rest first old new rest part n p u e f t l m k = (
  part ++ old.ahead,
  subst (λ (ahead : List ℕ). Part all new.line ahead rest (part ++ old.ahead)) (sym e) (Part-more all old.line new.line old.ahead rest part p u f),
  omega (arith, length-append part old.ahead),
  omega (arith, length-append part old.ahead, ap (λ (l : List ℕ). length l) e),
  Taken-more first old.ahead new.ahead part first_rest rest k e,
)

pub returns-then-take_piece-clause-line : goal.returns-then-take_piece-clause-line
returns-then-take_piece-clause-line g c = λ t.
    let i = c.loop-self.invariant.part in
    let a = c.in_ok-look_ahead.ensures in
    let p = Part-ahead _ _ _ _ _ _ _ i.0 i.1 a.line a.bytes.came in
    let m = c.if-take_piece.ensures.piece in
    took_cut _ _ _ _ _ m.0 _ i.0 p m.1 m.2 m.3

pub loop-self-preserved : goal.loop-self-preserved
loop-self-preserved g c =
    let i = c.loop-self.invariant.part in
    let a = c.in_ok-look_ahead.ensures in
    let p = Part-ahead _ _ _ _ _ _ _ i.0 i.1 a.line a.bytes.came in
    let m = c.if-take_piece.ensures.piece in
    record {
      part = part_of_taken _ _ c.args.self.now.ahead c.look_ahead.new.self c.take_piece.new.self _ i.0 _ p m.0 m.1 m.2 c.take_piece.ensures.taken
          (at_true _ _ _ c.if-branch.true a.some) (omega (arith, i.3, a.stays)) (Taken-ahead _ _ _ i.0 _ _ _ i.4 a.bytes.gave);
      ended = λ e. Ends-less _ _ _ m.1 (a.notes.ended (sym c.take_piece.ensures.ended ∙ e));
      counted = ap (λ n. total n (g.I.Source.rest c.look_ahead.new.input)) c.take_piece.ensures.taken ∙ (a.notes.counted ∙ c.loop-self.invariant.counted);
      asked = asked_more g.I.Source.took c.loop-self.is_empty _ _ c.look_ahead.new.self.ahead _ _ _ _ c.loop-self.invariant.asked a.source.looks m.0 (at_true _ _ _ c.if-branch.true a.some) m.1;
      after_end = λ e.
          let before = c.loop-self.invariant.after_end e in
          let late = a.source.after_end before.1 in (late.0 ∙ before.0, c.take_piece.ensures.ended ∙ late.1);
      quiet = a.faults.quiet ∙ c.loop-self.invariant.quiet;
    }

pub returns-clause-line : goal.returns-clause-line
returns-clause-line g c = λ t.
    let i = c.loop-self.invariant.part in
    let a = c.in_ok-look_ahead.ensures in
    let p = Part-ahead _ _ _ _ _ _ _ i.0 i.1 a.line a.bytes.came in
    took_last _ _ _ _ i.0 p (at_not _ _ _ t i.2) (at_false _ _ _ c.if-branch.false a.some)

pub returns-clause-none : goal.returns-clause-none
returns-clause-none g c = λ f.
    let a = c.in_ok-look_ahead.ensures in
    let ends = at_false _ _ _ c.if-branch.false a.some in
    record { none = search rules; over = ends; read = Ends-rest _ _ ends }

pub returns-in_err-look_ahead-clause-shows : goal.returns-in_err-look_ahead-clause-shows
returns-in_err-look_ahead-clause-shows g c =
    let i = c.loop-self.invariant.part in
    let a = c.in_err-look_ahead.ensures in
    let taken = Taken-ahead _ _ _ i.0 _ _ _ i.4 a.bytes.gave in
    record {
      shown = shown_whole _ c.look_ahead.new.self.ahead _ i.0 _ _ _ _ _ _ i.1 taken a.bytes.err a.line;
      unended = on_err c.from_residual.result (ShowsUnended _ _ _ _) (unended_whole _ c.look_ahead.new.self.ahead _ i.0 _ _ _ _ _ _ i.1 taken a.bytes.err a.line);
    }

pub returns-then-take_piece-clause-shows : goal.returns-then-take_piece-clause-shows
returns-then-take_piece-clause-shows g c =
    let i = c.loop-self.invariant.part in
    let a = c.in_ok-look_ahead.ensures in
    let p = Part-ahead _ _ _ _ _ _ _ i.0 i.1 a.line a.bytes.came in
    let m = c.if-take_piece.ensures.piece in
    record {
      shown = shown_cut _ c.look_ahead.new.self.ahead c.take_piece.new.self.ahead i.0 m.0 _ _ _ _ _ p (Taken-ahead _ _ _ i.0 _ _ _ i.4 a.bytes.gave) m.1 m.2 m.3;
      unended = tt;
    }

pub returns-clause-shows : goal.returns-clause-shows
returns-clause-shows g c =
    let i = c.loop-self.invariant.part in
    let a = c.in_ok-look_ahead.ensures in
    record {
      shown = shown_whole _ c.look_ahead.new.self.ahead _ i.0 _ _ _ _ _ _ i.1 (Taken-ahead _ _ _ i.0 _ _ _ i.4 a.bytes.gave) (a.bytes.empty c.if-branch.false) a.line;
      unended = tt;
    }

pub returns-clause-source : goal.returns-clause-source
returns-clause-source g c =
    let i = c.loop-self.invariant in
    let looks = c.in_ok-look_ahead.ensures.source.looks in
    record {
      reads = asked_line g.I.Source.took c.loop-self.is_empty _ _ c.look_ahead.new.self.ahead _ _ _ i.asked looks;
      line_ahead = λ h. asked_none g.I.Source.took c.loop-self.is_empty _ _ c.look_ahead.new.self.ahead _ _ _ i.asked looks h;
      after_end = λ e. let before = i.after_end e in (c.in_ok-look_ahead.ensures.source.after_end before.1).0 ∙ before.0;
    }

pub returns-then-take_piece-clause-source : goal.returns-then-take_piece-clause-source
returns-then-take_piece-clause-source g c =
    let i = c.loop-self.invariant in
    let looks = c.in_ok-look_ahead.ensures.source.looks in
    record {
      reads = asked_line g.I.Source.took c.loop-self.is_empty _ _ c.look_ahead.new.self.ahead _ _ _ i.asked looks;
      line_ahead = λ h. asked_none g.I.Source.took c.loop-self.is_empty _ _ c.look_ahead.new.self.ahead _ _ _ i.asked looks h;
      after_end = λ e. let before = i.after_end e in (c.in_ok-look_ahead.ensures.source.after_end before.1).0 ∙ before.0;
    }

pub returns-in_err-look_ahead-clause-source : goal.returns-in_err-look_ahead-clause-source
returns-in_err-look_ahead-clause-source g c =
    let i = c.loop-self.invariant in
    let a = c.in_err-look_ahead.ensures.source in
    record {
      reads = search rules;
      line_ahead = λ h. absurd (asked_failed g.I.Source.took c.loop-self.is_empty _ _ _ _ i.asked (λ n. let bad = a.there n in absurd (cc)) h);
      after_end = λ e. let before = i.after_end e in (a.after_end before.1).0 ∙ before.0;
    }
