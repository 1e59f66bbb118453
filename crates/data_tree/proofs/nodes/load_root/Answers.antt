use Rattle.std.proofs.Common.{◌≡◌, sym, ◌∙◌, ap, subst, length, true}
use Rattle.data_nodes.specs.Layout.{node_of, inner}
use Rattle.store_api.specs.store_outcome.Outcome.{answered, passed, unbuilt, sounded_}
use Rattle.data_tree.specs.Needs.{HasNode}
use Rattle.data_tree.specs.Roots.{IsRoot}
use Rattle.data_tree.specs.Trees.{depth_in, span, IsDepth}
use Rattle.store_api.specs.Txs.{tx_holdings, tx_laws}
use Rattle.data_tree.proofs.Loads.{holds-depth}
use Rattle.data_tree.proofs.nodes.load_root.Goals as goal

pub returns-in-Some-clause-outcome : goal.returns-in-Some-clause-outcome
returns-in-Some-clause-outcome g c =
    let H = tx_holdings g.S.Blocks.holdings in
    let a = c.args.tx.now in
    let told = g.met.S.Blocks.steady.sound_told a.store in
    let one = sounded_ {N = IsRoot H a c.args.root.now.0} {R = λ n y. (H.told a ≡ true) × (node_of y ≡ n.tree.node)}
    (λ s n. record { text = n.tree.text; node = n.tree.node; told = told s; there = n.tree.there; is = n.tree.is }) c.in-Ok.ensures.outcome (λ s n y h. (told s, h)) in
    answered one (λ n p. p)

pub returns-in-Some-clause-shallow : goal.returns-in-Some-clause-shallow
returns-in-Some-clause-shallow g c s h deep =
    let H = tx_holdings g.S.Blocks.holdings in
    let a = c.args.tx.now in
    let there : HasNode H a c.args.root.now.0 = record { text = deep.text; node = inner deep.depth deep.children; told = g.met.S.Blocks.steady.sound_told a.store s; there = deep.there; is = deep.is } in
    let node : node_of c.in-Ok.node ≡ inner deep.depth deep.children = c.in-Ok.ensures.outcome.value there s h in
    let level : c.in-Some.level.depth ≡ deep.depth = c.in-Some.ensures.depth ∙ c.depth_of.ensures ∙ ap depth_in node in
    let long : c.payload.result ≡ H.payload a = c.payload.ensures ∙ c.load_node.ensures.stays.payload in
    let some = c.in-Some.ensures.some in
    deep.deeper some.0 some.1.0 (subst (λ p. IsDepth p deep.depth some.0) long (subst (λ d. IsDepth c.payload.result d some.0) level some.1.1))

pub returns-in-None-clause-outcome : goal.returns-in-None-clause-outcome
returns-in-None-clause-outcome g c =
    let H = tx_holdings g.S.Blocks.holdings in
    let laws = tx_laws g.S.Blocks.meanings g.S.Blocks.holdings g.met.S.Blocks.lawful in
    let a = c.args.tx.now in
    let told = g.met.S.Blocks.steady.sound_told a.store in
    let one = sounded_ {N = IsRoot H a c.args.root.now.0} {R = λ n y. node_of y ≡ n.tree.node}
    (λ s n. record { text = n.tree.text; node = n.tree.node; told = told s; there = n.tree.there; is = n.tree.is }) c.in-Ok.ensures.outcome (λ s n y h. h) in
    unbuilt laws one (λ n p.
    let deep : c.depth_of.result ≡ n.depth = c.depth_of.ensures ∙ ap depth_in p ∙ holds-depth (H.payload a) (H.content a) n.depth n.tree.node n.bytes n.tree.below n.tree.holds in
    let long : c.payload.result ≡ H.payload a = c.payload.ensures ∙ c.load_node.ensures.stays.payload in
    c.in-None.ensures.none (length n.bytes) n.small (subst (λ p. IsDepth p c.depth_of.result (length n.bytes)) (sym long) (subst (λ d. IsDepth (H.payload a) d (length n.bytes)) (sym deep) n.deep)))

pub returns-in-Err-clause-outcome : goal.returns-in-Err-clause-outcome
returns-in-Err-clause-outcome g c =
    let a = c.args.tx.now in
    let told = g.met.S.Blocks.steady.sound_told a.store in
    passed (sounded_ {N = IsRoot (tx_holdings g.S.Blocks.holdings) a c.args.root.now.0} {R = λ n y. Unit {0}}
    (λ s n. record { text = n.tree.text; node = n.tree.node; told = told s; there = n.tree.there; is = n.tree.is }) c.in-Err.ensures.outcome (λ s n y h. tt))

pub returns-in-Err-clause-stays : goal.returns-in-Err-clause-stays
returns-in-Err-clause-stays g c = c.load_node.ensures.stays

pub returns-in-Err-clause-leaves : goal.returns-in-Err-clause-leaves
returns-in-Err-clause-leaves g c = c.load_node.ensures.leaves

pub returns-in-Some-clause-stays : goal.returns-in-Some-clause-stays
returns-in-Some-clause-stays g c = c.load_node.ensures.stays

pub returns-in-Some-clause-leaves : goal.returns-in-Some-clause-leaves
returns-in-Some-clause-leaves g c = c.load_node.ensures.leaves

pub returns-in-None-clause-stays : goal.returns-in-None-clause-stays
returns-in-None-clause-stays g c = c.load_node.ensures.stays

pub returns-in-None-clause-leaves : goal.returns-in-None-clause-leaves
returns-in-None-clause-leaves g c = c.load_node.ensures.leaves

pub returns-in-Err-clause-shallow : goal.returns-in-Err-clause-shallow
returns-in-Err-clause-shallow g c s h = tt

pub returns-in-None-clause-shallow : goal.returns-in-None-clause-shallow
returns-in-None-clause-shallow g c s h = tt

pub returns-in-Some-clause-level : goal.returns-in-Some-clause-level
returns-in-Some-clause-level g c =
    let long : c.payload.result ≡ g.S.Blocks.holdings.payload c.args.tx.now.store = c.payload.ensures ∙ c.load_node.ensures.stays.payload in
    record {
      fits = c.in-Ok.ensures.fits;
      depth = sym (c.in-Some.ensures.depth ∙ c.depth_of.ensures);
      room = c.in-Some.ensures.room ∙ ap (λ p. span p c.depth_of.result) long ∙ ap (span (g.S.Blocks.holdings.payload c.args.tx.now.store)) (sym c.in-Some.ensures.depth);
    }

pub returns-in-Some-clause-there : goal.returns-in-Some-clause-there
returns-in-Some-clause-there g c = c.in-Ok.ensures.there

pub returns-in-Some-clause-small : goal.returns-in-Some-clause-small
returns-in-Some-clause-small g c = c.in-Some.ensures.fits
