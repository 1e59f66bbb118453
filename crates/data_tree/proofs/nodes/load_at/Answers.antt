use Rattle.std.proofs.Common.{◌≡◌, ◌∙◌, ap}
use Rattle.data_nodes.specs.Layout.{node_of}
use Rattle.store_api.specs.store_outcome.Outcome.{first_, unbuilt}
use Rattle.data_tree.specs.Needs.{HasTree}
use Rattle.data_tree.specs.Trees.{depth_in}
use Rattle.store_api.specs.Txs.{tx_holdings, tx_laws}
use Rattle.data_tree.proofs.Loads.{holds-depth}
use Rattle.data_tree.proofs.nodes.load_at.Goals as goal

pub returns-then-depth_of-depth-clause-outcome : goal.returns-then-depth_of-depth-clause-outcome
returns-then-depth_of-depth-clause-outcome g c =
    let H = tx_holdings g.S.Blocks.holdings in
    let a = c.args.tx.now in
    let laws = tx_laws g.S.Blocks.meanings g.S.Blocks.holdings g.met.S.Blocks.lawful in
    let one = first_ {N = HasTree H a c.args.depth c.args.id.now.0} {R = λ n y. node_of y ≡ n.tree.node}
    (λ n. record { text = n.tree.text; node = n.tree.node; told = n.told; there = n.tree.there; is = n.tree.is }) c.in_ok-node.ensures.outcome (λ n y h. h) in
    unbuilt laws one (λ n p. c.if-depth_of-depth.true (c.depth_of.ensures ∙ ap depth_in p ∙ holds-depth (H.payload a) (H.content a) c.args.depth n.tree.node n.bytes n.tree.below n.tree.holds))

pub returns-clause-outcome : goal.returns-clause-outcome
returns-clause-outcome g c =
    first_ (λ n. record { text = n.tree.text; node = n.tree.node; told = n.told; there = n.tree.there; is = n.tree.is }) c.in_ok-node.ensures.outcome (λ n y h. h)
