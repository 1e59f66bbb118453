-- The head of a leaf, and else what the blocks of each level say.
use Rattle.std.proofs.Common.{◌∙◌, sym}
use Rattle.data_tree.specs.store_outcome.Outcome.{answered, passed, then_}
use Rattle.data_tree.specs.store_api.Txs.{tx_holdings, tx_laws}
use Rattle.data_tree.proofs.Forests.{root_at, stays-then}
use Rattle.data_tree.proofs.Heads.{leaf_shallow, lowest_len, root_head, shallow_since}
use Rattle.data_reads.proofs.tree.len.Goals as goal

pub returns-then-head-eq0-clause-outcome : goal.returns-then-head-eq0-clause-outcome
returns-then-head-eq0-clause-outcome g c =
    let H = tx_holdings g.S.Blocks.holdings in
    let a = c.args.tx.now in
    answered (root_head g.S.Blocks.meanings g.S.Blocks.holdings g.met.S.Blocks.steady c.in-Ok.ensures.outcome)
    (λ n p. p.1.1 ∙ lowest_len (H.payload a) (H.content a) n.depth n.tree.node n.bytes n.tree.below n.tree.holds (sym p.1.0 ∙ c.if-head-eq0.true))

pub returns-then-head-eq0-clause-shallow : goal.returns-then-head-eq0-clause-shallow
returns-then-head-eq0-clause-shallow g c = leaf_shallow g.S.Blocks.meanings g.S.Blocks.holdings g.met.S.Blocks.steady c.in-Ok.ensures.outcome c.if-head-eq0.true

pub returns-clause-outcome : goal.returns-clause-outcome
returns-clause-outcome g c =
    let laws = tx_laws g.S.Blocks.meanings g.S.Blocks.holdings g.met.S.Blocks.lawful in
    let head = root_head g.S.Blocks.meanings g.S.Blocks.holdings g.met.S.Blocks.steady c.in-Ok.ensures.outcome in
    then_ laws head (λ n p. root_at c.load_head.ensures.stays p.0 n) c.deep_len.ensures.outcome (λ n p y h. h)

pub returns-clause-shallow : goal.returns-clause-shallow
returns-clause-shallow g c =
    shallow_since g.S.Blocks.meanings g.S.Blocks.holdings g.met.S.Blocks.steady g.met.S.Blocks.lawful c.args.tx.now c.load_head.new.tx c.deep_len.new.tx c.args.root.now.0 c.deep_len.result
    c.load_head.ensures.stays c.in-Ok.ensures.outcome c.deep_len.ensures.outcome.loaded c.deep_len.ensures.shallow

pub returns-in-Err-clause-outcome : goal.returns-in-Err-clause-outcome
returns-in-Err-clause-outcome g c = passed (root_head g.S.Blocks.meanings g.S.Blocks.holdings g.met.S.Blocks.steady c.in-Err.ensures.outcome)

pub returns-clause-below : goal.returns-clause-below
returns-clause-below g c = stays-then c.load_head.ensures.leaves.below c.deep_len.ensures.below
