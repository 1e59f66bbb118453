use Rattle.std.proofs.Common.{sym, subst}
use Rattle.data_tree.specs.data_nodes.Layout.{node_of}
use Rattle.data_tree.specs.store_outcome.Outcome.{then_, passed}
use Rattle.data_tree.specs.store_api.Txs.{tx_laws}
use Rattle.data_tree.specs.Roots.{IsAtLevel}
use Rattle.data_tree.proofs.Forests.{below_on, below_root, stays-then}
use Rattle.data_tree.proofs.Puts.{on_any, unforged_before}
use Rattle.data_reads.proofs.tree.deep_len.Goals as goal

pub returns-in-Ok-clause-outcome : goal.returns-in-Ok-clause-outcome
returns-in-Ok-clause-outcome g c =
    let laws = tx_laws g.S.Blocks.meanings g.S.Blocks.holdings g.met.S.Blocks.lawful in
    then_ laws c.in-Ok.ensures.outcome (λ n p. below_on c.load_root.ensures.stays (below_root (node_of c.in-Ok.node) c.in-Ok.level.depth p.0 n p.1 c.in-Ok.ensures.level.depth)) c.len_in.ensures.outcome (λ n p y h. h)

pub returns-in-Ok-clause-shallow : goal.returns-in-Ok-clause-shallow
returns-in-Ok-clause-shallow g c s h =
    let laws = tx_laws g.S.Blocks.meanings g.S.Blocks.holdings g.met.S.Blocks.lawful in
    on_any c.len_in.result (c.in-Ok.ensures.shallow s (unforged_before laws c.args.tx.now c.load_root.new.tx c.len_in.new.tx c.len_in.ensures.outcome.loaded h))

pub returns-in-Err-clause-outcome : goal.returns-in-Err-clause-outcome
returns-in-Err-clause-outcome g c = passed c.in-Err.ensures.outcome

pub returns-in-Ok-clause-below : goal.returns-in-Ok-clause-below
returns-in-Ok-clause-below g c = stays-then c.load_root.ensures.leaves.below c.len_in.ensures.leaves.below

pub len_in-requires-clause-at : goal.len_in-requires-clause-at
len_in-requires-clause-at g c =
    let same = sym c.load_root.ensures.stays.payload in
    subst (λ p. IsAtLevel p (node_of c.in-Ok.node) c.in-Ok.level) same c.in-Ok.ensures.level
