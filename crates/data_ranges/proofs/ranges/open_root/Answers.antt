use Rattle.std.proofs.Common.{◌≡◌, true, length, sym, subst}
use Rattle.data_reads.specs.data_nodes.Layout.{node_of}
use Rattle.data_reads.specs.store_outcome.Outcome.{then_, failed_, answered, passed}
use Rattle.data_reads.specs.data_tree.Roots.{IsAtLevel}
use Rattle.data_reads.proofs.data_tree_lemmas.Leaving.{leaves_then}
use Rattle.data_reads.specs.store_api.Txs.{tx_holdings, tx_laws}
use Rattle.data_reads.proofs.data_tree_lemmas.Forests.{below_on, below_root, stays-then}
use Rattle.data_reads.proofs.data_tree_lemmas.Puts.{unforged_before}
use Rattle.data_ranges.proofs.ranges.open_root.Goals as goal

pub returns-in-Ok-len_in-clause-outcome : goal.returns-in-Ok-len_in-clause-outcome
returns-in-Ok-len_in-clause-outcome g c =
    let H = tx_holdings g.S.Blocks.holdings in
    let laws = tx_laws g.S.Blocks.meanings g.S.Blocks.holdings g.met.S.Blocks.lawful in
    let two = then_ laws {R = λ n len. (H.told c.args.tx.now ≡ true) × ((node_of c.in-Ok.found.0 ≡ n.tree.node) × (len ≡ length n.bytes))} c.in-Ok.ensures.outcome
    (λ n p. below_on c.load_root.ensures.stays (below_root (node_of c.in-Ok.found.0) c.in-Ok.found.1.depth p.0 n p.1 c.in-Ok.ensures.level.depth)) c.in-Ok-len_in.ensures.outcome (λ n p y h. (p.0, (p.1, h))) in
    answered two (λ n p. p)

pub returns-in-Ok-len_in-clause-shallow : goal.returns-in-Ok-len_in-clause-shallow
returns-in-Ok-len_in-clause-shallow g c s h =
    let laws = tx_laws g.S.Blocks.meanings g.S.Blocks.holdings g.met.S.Blocks.lawful in
    c.in-Ok.ensures.shallow s (unforged_before laws c.args.tx.now c.load_root.new.tx c.len_in.new.tx c.len_in.ensures.outcome.loaded h)

pub returns-in-Err-len_in-clause-outcome : goal.returns-in-Err-len_in-clause-outcome
returns-in-Err-len_in-clause-outcome g c =
    let laws = tx_laws g.S.Blocks.meanings g.S.Blocks.holdings g.met.S.Blocks.lawful in
    failed_ laws c.in-Ok.ensures.outcome (λ n p. below_on c.load_root.ensures.stays (below_root (node_of c.in-Ok.found.0) c.in-Ok.found.1.depth p.0 n p.1 c.in-Ok.ensures.level.depth)) c.in-Err-len_in.ensures.outcome

pub returns-in-Err-clause-outcome : goal.returns-in-Err-clause-outcome
returns-in-Err-clause-outcome g c = passed c.in-Err.ensures.outcome

pub returns-in-Err-clause-shallow : goal.returns-in-Err-clause-shallow
returns-in-Err-clause-shallow g c s h = tt

pub returns-in-Err-len_in-clause-shallow : goal.returns-in-Err-len_in-clause-shallow
returns-in-Err-len_in-clause-shallow g c s h = tt

pub returns-in-Err-clause-stays : goal.returns-in-Err-clause-stays
returns-in-Err-clause-stays g c = c.load_root.ensures.stays

pub returns-in-Ok-len_in-clause-stays : goal.returns-in-Ok-len_in-clause-stays
returns-in-Ok-len_in-clause-stays g c = stays-then c.load_root.ensures.stays c.len_in.ensures.stays

pub returns-in-Err-len_in-clause-stays : goal.returns-in-Err-len_in-clause-stays
returns-in-Err-len_in-clause-stays g c = stays-then c.load_root.ensures.stays c.len_in.ensures.stays

pub returns-in-Err-clause-leaves : goal.returns-in-Err-clause-leaves
returns-in-Err-clause-leaves g c = c.load_root.ensures.leaves

pub returns-in-Ok-len_in-clause-leaves : goal.returns-in-Ok-len_in-clause-leaves
returns-in-Ok-len_in-clause-leaves g c = leaves_then c.load_root.ensures.leaves c.len_in.ensures.leaves

pub returns-in-Err-len_in-clause-leaves : goal.returns-in-Err-len_in-clause-leaves
returns-in-Err-len_in-clause-leaves g c = leaves_then c.load_root.ensures.leaves c.len_in.ensures.leaves

pub returns-in-Ok-len_in-clause-level : goal.returns-in-Ok-len_in-clause-level
returns-in-Ok-len_in-clause-level g c = c.in-Ok.ensures.level

pub len_in-requires-clause-at : goal.len_in-requires-clause-at
len_in-requires-clause-at g c = subst (λ p. IsAtLevel p (node_of c.in-Ok.found.0) c.in-Ok.found.1) (sym c.load_root.ensures.stays.payload) c.in-Ok.ensures.level
