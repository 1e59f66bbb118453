use Rattle.std.proofs.Common.{sym, ◌∙◌, arith}
use Rattle.std.proofs.lemmas.List.{length-map}
use Rattle.outside.specs.View.{at_of, pending_of, list_of}
use Rattle.pending_list.proofs.Lists.{item_here, set_before, set_here, set_later}
use Rattle.pending_list.proofs.list.place.Goals as goal

pub returns-in-Less-clause-absent : goal.returns-in-Less-clause-absent
returns-in-Less-clause-absent c =
    let here = item_here c.args.list.now c.loop-i.i c.index-list-i.result c.loop-i-test.true c.index-list-i.is in
    set_before (at_of c.args.name.now) (list_of c.args.list.now) c.loop-i.i (pending_of c.index-list-i.result) c.loop-i.invariant here (sym c.order.ensures ∙ c.in-Less.is)

pub returns-in-Equal-clause-found : goal.returns-in-Equal-clause-found
returns-in-Equal-clause-found c =
    let here = item_here c.args.list.now c.loop-i.i c.index-list-i.result c.loop-i-test.true c.index-list-i.is in
    set_here (at_of c.args.name.now) (list_of c.args.list.now) c.loop-i.i (pending_of c.index-list-i.result) c.loop-i.invariant here (sym c.order.ensures ∙ c.in-Equal.is)

pub loop-i-preserved : goal.loop-i-preserved
loop-i-preserved c =
    let here = item_here c.args.list.now c.loop-i.i c.index-list-i.result c.loop-i-test.true c.index-list-i.is in
    set_later (at_of c.args.name.now) (list_of c.args.list.now) c.loop-i.i (pending_of c.index-list-i.result) c.loop-i.invariant here (omega (arith, length-map c.args.list.now pending_of, c.loop-i-test.true)) (sym c.order.ensures ∙ c.in-Greater.is)
