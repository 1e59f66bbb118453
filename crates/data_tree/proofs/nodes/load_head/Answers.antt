use Rattle.std.proofs.Common.{◌≡◌, sym, ◌∙◌, ap}
use Rattle.outside.specs.View.{bytes_of}
use Rattle.store_api.specs.store_outcome.Outcome.{first_, answered, unbuilt}
use Rattle.store_api.specs.Fronts.{front_of}
use Rattle.store_api.specs.Txs.{tx_holdings, tx_laws, tx_steady}
use Rattle.data_tree.specs.Needs.{HasNode}
use Rattle.data_tree.proofs.Loads.{front_is}
use Rattle.data_tree.proofs.nodes.load_head.Goals as goal

pub returns-in-Some-head_in-clause-outcome : goal.returns-in-Some-head_in-clause-outcome
returns-in-Some-head_in-clause-outcome g c =
    let H = tx_holdings g.S.Blocks.holdings in
    let steady = tx_steady g.S.Blocks.meanings g.S.Blocks.holdings g.met.S.Blocks.steady in
    let a = c.args.tx.now in
    let id = c.args.id.now.0 in
    let long : H.payload a ≡ c.payload.result = sym (c.payload.ensures ∙ c.load_front.ensures.stays.payload) in
    let one = first_ {N = HasNode H a id} {R = λ n y. bytes_of y ≡ front_of 8 (H.content a id)} (λ n. tt) c.in_ok-front.ensures.outcome (λ n y h. h) in
    answered one (λ n p. c.in-Some-head_in.ensures.only n.text n.node n.is (steady.sized a id n.text c.requires n.told n.there ∙ long)
    (front_is (H.content a id) n.text c.in-Some.front.items c.deref.result.now 8 n.there (ap bytes_of (sym c.in-Some.is) ∙ p) c.deref.ensures.value))

pub returns-clause-outcome : goal.returns-clause-outcome
returns-clause-outcome g c =
    let H = tx_holdings g.S.Blocks.holdings in
    let laws = tx_laws g.S.Blocks.meanings g.S.Blocks.holdings g.met.S.Blocks.lawful in
    let steady = tx_steady g.S.Blocks.meanings g.S.Blocks.holdings g.met.S.Blocks.steady in
    let a = c.args.tx.now in
    let id = c.args.id.now.0 in
    let long : H.payload a ≡ c.payload.result = sym (c.payload.ensures ∙ c.load_front.ensures.stays.payload) in
    let one = first_ {N = HasNode H a id} {R = λ n y. bytes_of y ≡ front_of 8 (H.content a id)} (λ n. tt) c.in_ok-front.ensures.outcome (λ n y h. h) in
    unbuilt laws one (λ n p. c.in-None-head_in.ensures.only n.text n.node n.is (steady.sized a id n.text c.requires n.told n.there ∙ long)
    (front_is (H.content a id) n.text c.in-Some.front.items c.deref.result.now 8 n.there (ap bytes_of (sym c.in-Some.is) ∙ p) c.deref.ensures.value))
