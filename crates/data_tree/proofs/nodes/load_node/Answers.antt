use Rattle.std.proofs.Common.{◌≡◌, sym, ◌∙◌, ap}
use Rattle.outside.specs.View.{bytes_of}
use Rattle.store_api.specs.store_outcome.Outcome.{first_, answered, unbuilt}
use Rattle.data_tree.specs.Needs.{HasNode}
use Rattle.store_api.specs.Txs.{tx_holdings, tx_laws}
use Rattle.data_tree.proofs.Loads.{read_some, read_none}
use Rattle.data_tree.proofs.nodes.load_node.Goals as goal

pub returns-in-Some-2-clause-outcome : goal.returns-in-Some-2-clause-outcome
returns-in-Some-2-clause-outcome g c =
    let H = tx_holdings g.S.Blocks.holdings in
    let a = c.args.tx.now in
    let id = c.args.id.now.0 in
    let one = first_ {N = HasNode H a id} {R = λ n y. bytes_of y ≡ H.content a id} (λ n. tt) c.in_ok-payload.ensures.outcome (λ n y h. h) in
    answered one (λ n p. read_some (H.content a id) n.text c.in-Some.payload.items c.deref.result.now n.node c.in_ok-node.field-0 c.in-Some-2.node c.in-Some-2.is n.there
    (ap bytes_of (sym c.in-Some.is) ∙ p) c.deref.ensures.value n.is c.in_ok-node.ensures.only)

pub returns-clause-outcome : goal.returns-clause-outcome
returns-clause-outcome g c =
    let H = tx_holdings g.S.Blocks.holdings in
    let laws = tx_laws g.S.Blocks.meanings g.S.Blocks.holdings g.met.S.Blocks.lawful in
    let a = c.args.tx.now in
    let id = c.args.id.now.0 in
    let one = first_ {N = HasNode H a id} {R = λ n y. bytes_of y ≡ H.content a id} (λ n. tt) c.in_ok-payload.ensures.outcome (λ n y h. h) in
    unbuilt laws one (λ n p. read_none (H.content a id) n.text c.in-Some.payload.items c.deref.result.now n.node c.in_ok-node.field-0 c.in-None-2.is n.there
    (ap bytes_of (sym c.in-Some.is) ∙ p) c.deref.ensures.value n.is c.in_ok-node.ensures.only)
