use Rattle.std.proofs.Common.{◌≡◌, ◌≤◌, ◌-◌, ◌+◌, true, false, length, drop, get_or, sym, ◌∙◌, ap, arith}
use Rattle.std.specs.Prelude.{◌&&◌}
use Rattle.std.specs.Ordering.{is_lt}
use Rattle.std.specs.FinMap.{is_sorted}
use Rattle.std.proofs.lemmas.List.{length-map}
use Rattle.outside.specs.Names.{at_cmp}
use Rattle.outside.specs.View.{at_of, pending_of, list_of}
use Rattle.pending_list.proofs.InOrder.{step_rises, one_rises}
use Rattle.pending_list.proofs.in_order.is_in_order.Goals as goal

pub returns-then-not-is_lt : goal.returns-then-not-is_lt
returns-then-not-is_lt c =
    let ps = c.args.list.now in
    let lt : is_lt (at_cmp (at_of c.index-list-i.result.name) (at_of c.index-list-i-in-loop-i.result.name)) ≡ false =
    ap (λ p. is_lt (at_cmp (at_of p.name) (at_of c.index-list-i-in-loop-i.result.name))) c.index-list-i.is
    ∙ ap (λ q. is_lt (at_cmp (at_of (get_or ps (c.loop-i.i - 1) c.index-list-i.result).name) (at_of q.name))) c.index-list-i-in-loop-i.is
    ∙ ap is_lt (sym c.order.ensures) ∙ (sym c.is_lt.ensures ∙ c.if-not-is_lt.true) in
    sym (c.loop-i.invariant
    ∙ (step_rises ps c.loop-i.i c.index-list-i.result c.index-list-i-in-loop-i.result c.loop-i-test.true c.loop-i.auto.i c.index-list-i.is c.index-list-i-in-loop-i.is
    ∙ ap (λ b. b && is_sorted at_cmp (drop c.loop-i.i (list_of ps))) lt))

pub loop-i-preserved : goal.loop-i-preserved
loop-i-preserved c =
    let ps = c.args.list.now in
    let lt : is_lt (at_cmp (at_of c.index-list-i.result.name) (at_of c.index-list-i-in-loop-i.result.name)) ≡ true =
    ap (λ p. is_lt (at_cmp (at_of p.name) (at_of c.index-list-i-in-loop-i.result.name))) c.index-list-i.is
    ∙ ap (λ q. is_lt (at_cmp (at_of (get_or ps (c.loop-i.i - 1) c.index-list-i.result).name) (at_of q.name))) c.index-list-i-in-loop-i.is
    ∙ ap is_lt (sym c.order.ensures) ∙ (sym c.is_lt.ensures ∙ c.if-not-is_lt.false) in
    let same : c.loop-i.i ≡ c.loop-i.i + 1 - 1 = omega arith in
    c.loop-i.invariant
    ∙ (step_rises ps c.loop-i.i c.index-list-i.result c.index-list-i-in-loop-i.result c.loop-i-test.true c.loop-i.auto.i c.index-list-i.is c.index-list-i-in-loop-i.is
    ∙ (ap (λ b. b && is_sorted at_cmp (drop c.loop-i.i (list_of ps))) lt
    ∙ ap (λ k. is_sorted at_cmp (drop k (list_of ps))) same))

pub returns : goal.returns
returns c =
    let few : length (list_of c.args.list.now) ≤ c.loop-i.i - 1 + 1 = omega (arith, length-map c.args.list.now pending_of, c.loop-i-test.false, c.loop-i.auto.i) in
    sym (c.loop-i.invariant ∙ one_rises (list_of c.args.list.now) (c.loop-i.i - 1) few)
