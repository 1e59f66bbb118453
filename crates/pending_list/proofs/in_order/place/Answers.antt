use Rattle.std.proofs.Common.{◌≡◌, ◌<◌, ◌-◌, ◌+◌, length, sym, ◌∙◌, ap, subst, arith}
use Rattle.std.specs.Prelude.{◌/◌}
use Rattle.std.specs.declared.option.Option.TheVariants.{Some}
use Rattle.std.proofs.lemmas.List.{length-map, get_or_read}
use Rattle.outside.specs.Names.{at_cmp}
use Rattle.outside.specs.View.{at_of, change_of, pending_of, list_of}
use Rattle.pending_list.proofs.Lists.{item_here}
use Rattle.pending_list.proofs.InOrder.{rises_of, none_passed, passed_more, below_end, below_here, set_found, says_found, set_between, says_none, IsBelow}
use Rattle.pending_list.proofs.in_order.place.Goals as goal

pub loop-from-init : goal.loop-from-init
loop-from-init c = record {
  passed = none_passed (at_of c.args.name.now) (list_of c.args.list.now);
  below = below_end (at_of c.args.name.now) (list_of c.args.list.now) (length c.args.list.now) (omega (arith, length-map c.args.list.now pending_of));
  rises = omega arith;
  within = omega arith;
}

pub loop-from-preserved-in-Less : goal.loop-from-preserved-in-Less
loop-from-preserved-in-Less c =
    let middle = c.loop-from.from + (c.loop-from.to - c.loop-from.from) / 2 in
    let lt : middle < length c.args.list.now = omega (arith, c.loop-from-test.true, c.loop-from.invariant.within) in
    record {
      passed = c.loop-from.invariant.passed;
      below = below_here (at_of c.args.name.now) (list_of c.args.list.now) middle (pending_of c.index-list-middle.result)
          (item_here c.args.list.now middle c.index-list-middle.result lt c.index-list-middle.is) (ap (λ p. at_cmp (at_of c.args.name.now) (at_of p.name)) c.index-list-middle.is ∙ sym c.order.ensures ∙ c.in-Less.is);
      rises = omega (arith, c.loop-from-test.true);
      within = omega (arith, lt);
    }

pub loop-from-preserved : goal.loop-from-preserved
loop-from-preserved c =
    let middle = c.loop-from.from + (c.loop-from.to - c.loop-from.from) / 2 in
    let lt : middle < length c.args.list.now = omega (arith, c.loop-from-test.true, c.loop-from.invariant.within) in
    record {
      passed = passed_more (at_of c.args.name.now) (list_of c.args.list.now) middle (pending_of c.index-list-middle.result) (rises_of (list_of c.args.list.now) c.requires)
          (item_here c.args.list.now middle c.index-list-middle.result lt c.index-list-middle.is) (omega (arith, length-map c.args.list.now pending_of, lt)) (ap (λ p. at_cmp (at_of c.args.name.now) (at_of p.name)) c.index-list-middle.is ∙ sym c.order.ensures ∙ c.in-Greater.is);
      below = c.loop-from.invariant.below;
      rises = omega (arith, c.loop-from-test.true);
      within = c.loop-from.invariant.within;
    }

pub returns-in-Equal-clause-found : goal.returns-in-Equal-clause-found
returns-in-Equal-clause-found c =
    let middle = c.loop-from.from + (c.loop-from.to - c.loop-from.from) / 2 in
    let lt : middle < length c.args.list.now = omega (arith, c.loop-from-test.true, c.loop-from.invariant.within) in
    set_found (at_of c.args.name.now) (list_of c.args.list.now) middle (pending_of c.index-list-middle.result) (rises_of (list_of c.args.list.now) c.requires)
    (item_here c.args.list.now middle c.index-list-middle.result lt c.index-list-middle.is) (ap (λ p. at_cmp (at_of c.args.name.now) (at_of p.name)) c.index-list-middle.is ∙ sym c.order.ensures ∙ c.in-Equal.is)

pub returns-in-Equal-clause-there : goal.returns-in-Equal-clause-there
returns-in-Equal-clause-there c = λ other.
    let middle = c.loop-from.from + (c.loop-from.to - c.loop-from.from) / 2 in
    let lt : middle < length c.args.list.now = omega (arith, c.loop-from-test.true, c.loop-from.invariant.within) in
    says_found (at_of c.args.name.now) (list_of c.args.list.now) middle (pending_of c.index-list-middle.result) (rises_of (list_of c.args.list.now) c.requires)
    (item_here c.args.list.now middle c.index-list-middle.result lt c.index-list-middle.is) (ap (λ p. at_cmp (at_of c.args.name.now) (at_of p.name)) c.index-list-middle.is ∙ sym c.order.ensures ∙ c.in-Equal.is)
    ∙ ap (λ p. Some (change_of p.change)) (get_or_read c.args.list.now middle c.index-list-middle.result lt c.index-list-middle.is other)

pub returns-clause-absent : goal.returns-clause-absent
returns-clause-absent c =
    let same : c.loop-from.to ≡ c.loop-from.from = omega (arith, c.loop-from-test.false, c.loop-from.invariant.rises) in
    set_between (at_of c.args.name.now) (list_of c.args.list.now) c.loop-from.from c.loop-from.invariant.passed
    (subst (IsBelow (at_of c.args.name.now) (list_of c.args.list.now)) same c.loop-from.invariant.below)

pub returns-clause-not_there : goal.returns-clause-not_there
returns-clause-not_there c =
    let same : c.loop-from.to ≡ c.loop-from.from = omega (arith, c.loop-from-test.false, c.loop-from.invariant.rises) in
    says_none (at_of c.args.name.now) (list_of c.args.list.now) c.loop-from.from (rises_of (list_of c.args.list.now) c.requires) c.loop-from.invariant.passed
    (subst (IsBelow (at_of c.args.name.now) (list_of c.args.list.now)) same c.loop-from.invariant.below)
