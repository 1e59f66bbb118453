use Rattle.std.proofs.Common.{◌∷◌, ◌++◌, sym, ◌∙◌, ap, arith}
use Rattle.std.specs.declared.option.Option.TheVariants.{Some}
use Rattle.outside.specs.Changes.{set_changes}
use Rattle.outside.specs.View.{at_of, pending_of, list_of}
use Rattle.pending_list.proofs.Merges.{front_is, first_below, first_last, first_same, first_above, pushed}
use Rattle.pending_list.proofs.merging.pass_lower.Goals as goal

pub returns-in-Less-clause-passed : goal.returns-in-Less-clause-passed
returns-in-Less-clause-passed c = λ change later h.
    ap (λ xs. list_of c.loop-order.merged.items ++ xs)
    (sym (first_below (at_of c.args.name.now) change later (list_of c.loop-order.rest.items) h (sym c.in-Some.ensures ∙ ap Some c.in-Less.is)))
    ∙ c.loop-order.invariant.passed change later h

pub returns-in-Equal-clause-passed : goal.returns-in-Equal-clause-passed
returns-in-Equal-clause-passed c = λ change later h.
    let n = at_of c.args.name.now in
    let first = c.take_first.result in
    let rest = c.take_first.new.list.items in
    let same = front_is n c.loop-order.rest.items rest first _ c.take_first.ensures.items (sym c.in-Some.ensures ∙ ap Some c.in-Equal.is) in
    ap (λ xs. list_of c.loop-order.merged.items ++ xs)
    (sym (ap (λ ps. set_changes ((n, change) ∷ later) (list_of ps)) c.take_first.ensures.items
    ∙ first_same n change later (pending_of first) (list_of rest) h same))
    ∙ c.loop-order.invariant.passed change later h

pub loop-order-preserved : goal.loop-order-preserved
loop-order-preserved c =
    let n = at_of c.args.name.now in
    let first = c.take_first-in-Greater.result in
    let rest = c.take_first-in-Greater.new.list.items in
    let above = front_is n c.loop-order.rest.items rest first _ c.take_first-in-Greater.ensures.items (sym c.in-Some.ensures ∙ ap Some c.in-Greater.is) in
    record {
      passed = λ change later h.
          pushed c.loop-order.merged.items c.push_reserved.new.self.items first c.push_reserved.ensures.items (set_changes ((n, change) ∷ later) (list_of rest))
          ∙ ap (λ xs. list_of c.loop-order.merged.items ++ xs)
          (sym (ap (λ ps. set_changes ((n, change) ∷ later) (list_of ps)) c.take_first-in-Greater.ensures.items
          ∙ first_above n change later (pending_of first) (list_of rest) h above))
          ∙ c.loop-order.invariant.passed change later h;
      len = omega (arith, c.push_reserved.ensures.len, c.take_first-in-Greater.ensures.len, c.loop-order.invariant.len);
      capacity = c.push_reserved.ensures.capacity ∙ c.loop-order.invariant.capacity;
    }

pub returns-clause-passed : goal.returns-clause-passed
returns-clause-passed c = λ change later h.
    ap (λ xs. list_of c.loop-order.merged.items ++ xs)
    (sym (first_last (at_of c.args.name.now) change later (list_of c.loop-order.rest.items) h (sym c.order_at_front.ensures ∙ c.in_default.is)))
    ∙ c.loop-order.invariant.passed change later h
