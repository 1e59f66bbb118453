-- No node without a head, and that of its contents behind one.
use Rattle.std.proofs.Common.{◌≡◌, nat_eq, sym, ◌∙◌, ap, subst, arith, drop}
use Rattle.std.specs.Prelude.{IfOk}
use Rattle.std.specs.Option.{option_map}
use Rattle.std.proofs.lemmas.List.{take_rest}
use Rattle.std.proofs.lemmas.Bool.{eq-eqb, ne_eqb, cond-true, cond-false}
use Rattle.data_nodes.specs.Layout.{node_of}
use Rattle.data_nodes.specs.Reading.{leaf_in, inner_in}
use Rattle.data_nodes.proofs.Heads.{headed, headless}
use Rattle.data_nodes.proofs.reading.node_from.Goals as goal

pub returns-in_default : goal.returns-in_default
returns-in_default c = sym (headless c.args.payload.now (λ i. omega (arith, c.type_inv.payload i)) (λ depth size byte small front. c.in_default.ensures.only depth size byte small front))

pub returns-then-head-eq0 : goal.returns-then-head-eq0
returns-then-head-eq0 c =
    let text = c.args.payload.now in
    let head = c.in-Some.head in
    let contents = drop 8 text in
    let whole = headed text head.depth head.size (omega arith) c.in-Some.ensures.found in
    let leaf = cond-true (nat_eq head.depth 0) (leaf_in head.size contents) (inner_in head.depth head.size contents) (eq-eqb _ _ c.if-head-eq0.true) in
    subst (λ x. IfOk c.leaf_from.result (λ answer. option_map node_of answer ≡ x)) (ap (leaf_in head.size) (take_rest text 8) ∙ sym (whole ∙ leaf)) c.leaf_from.ensures

pub returns-else-head-eq0 : goal.returns-else-head-eq0
returns-else-head-eq0 c =
    let text = c.args.payload.now in
    let head = c.in-Some.head in
    let contents = drop 8 text in
    let whole = headed text head.depth head.size (omega arith) c.in-Some.ensures.found in
    let inner = cond-false (nat_eq head.depth 0) (leaf_in head.size contents) (inner_in head.depth head.size contents) (ne_eqb _ _ c.if-head-eq0.false) in
    subst (λ x. IfOk c.inner_from.result (λ answer. option_map node_of answer ≡ x)) (ap (inner_in head.depth head.size) (take_rest text 8) ∙ sym (whole ∙ inner)) c.inner_from.ensures
