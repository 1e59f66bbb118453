use Rattle.std.proofs.Common.{◌<◌, ◌-◌, true, false, sym, ap, ◌∙◌, arith, rules}
use Rattle.std.specs.Prelude.{Some, None, if◌then◌else◌}
use Rattle.local_state.proofs.Loops.{not_below_itself}
use Rattle.shared_records.proofs.Scans.{IsBelow, IsNotBelow}
use Rattle.shared_records.proofs.Seeks.{broken_life, ended_life, found_life, later_same, next_place}
use Rattle.shared_records.proofs.rows.seek.Goals.{then-eq, else-eq}
use Rattle.shared_records.proofs.rows.seek.Goals as goal

pub returns-in_default-clause-life : goal.returns-in_default-clause-life
returns-in_default-clause-life c =
    let some : 0 < c.rows.place.left = omega (arith, c.rows.invariant.left, c.rows-test.true) in
    broken_life _ _ _ _ _ _ c.args.id.now.0 some (sym c.in_default.ensures.reads) (not_below_itself c.args.id.now.0) c.rows.invariant.place

pub returns-in_default-clause-later : goal.returns-in_default-clause-later
returns-in_default-clause-later c = later_same _ _ _ _ _ _ c.args.id.now.0 c.rows.invariant.place

pub returns-then-not-is_lt-clause-life : goal.returns-then-not-is_lt-clause-life
returns-then-not-is_lt-clause-life c =
    let some : 0 < c.rows.place.left = omega (arith, c.rows.invariant.left, c.rows-test.true) in
    let above : IsNotBelow c.in-Some.found.0 c.args.id.now.0 = search rules in
    let life = found_life _ _ _ _ _ _ c.args.id.now.0 ((c.in-Some.found.0, c.in-Some.life), c.in-Some.after.now) some (sym c.in-Some.ensures.reads) above (not_below_itself c.args.id.now.0) c.rows.invariant.place in
    elim c.if-eq.branch [
      | then-eq w ↦ w.result-is ∙ sym (ap (λ b. if b then Some c.in-Some.life else None) (sym c.eq.ensures ∙ w.if-eq.true)) ∙ life
      | else-eq w ↦ w.result-is ∙ sym (ap (λ b. if b then Some c.in-Some.life else None) (sym c.eq.ensures ∙ w.if-eq.false)) ∙ life
    ]

pub returns-then-not-is_lt-clause-later : goal.returns-then-not-is_lt-clause-later
returns-then-not-is_lt-clause-later c = later_same _ _ _ _ _ _ c.args.id.now.0 c.rows.invariant.place

pub rows-preserved : goal.rows-preserved
rows-preserved c =
    let some : 0 < c.rows.place.left = omega (arith, c.rows.invariant.left, c.rows-test.true) in
    let below : IsBelow c.in-Some.found.0 c.args.id.now.0 = search rules in
    record {
      left = omega (arith, c.rows.invariant.left, c.rows-test.true);
      place = next_place _ _ _ _ _ _ c.args.id.now.0 ((c.in-Some.found.0, c.in-Some.life), c.in-Some.after.now) some (sym c.in-Some.ensures.reads) below c.rows.invariant.place;
    }

pub returns-clause-life : goal.returns-clause-life
returns-clause-life c = ended_life _ _ _ _ _ _ c.args.id.now.0 (omega (arith, c.rows.invariant.left, c.rows-test.false)) (not_below_itself c.args.id.now.0) c.rows.invariant.place

pub returns-clause-later : goal.returns-clause-later
returns-clause-later c = later_same _ _ _ _ _ _ c.args.id.now.0 c.rows.invariant.place
