use Rattle.std.proofs.Common.{◌∙◌, ap, subst, sym}
use Rattle.data_tree.specs.data_nodes.Layout.{node_of, FitsPayload}
use Rattle.data_tree.specs.store_outcome.Outcome.{then_, no_memory, passed}
use Rattle.block_id.specs.Contents.{written}
use Rattle.data_tree.specs.store_api.Txs.{tx_laws}
use Rattle.data_reads.proofs.Anew.{root_node, root_since}
use Rattle.data_tree.proofs.Forests.{stays-then}
use Rattle.data_tree.proofs.Puts.{on_any, unforged_before}
use Rattle.data_reads.proofs.tree.write_range.Goals as goal

pub returns-clause-outcome : goal.returns-clause-outcome
returns-clause-outcome g c =
    let laws = tx_laws g.S.Blocks.meanings g.S.Blocks.holdings g.met.S.Blocks.lawful in
    then_ laws c.in-Ok.ensures.outcome (λ n p. root_node (node_of c.in-Ok.found.0) c.read_root.ensures.stays p.0 n p.1.0) c.rewrite.ensures.outcome
    (λ n p y r. root_since c.read_root.ensures.stays p.0 n (c.deref.ensures.value ∙ c.in-Ok-overwrite.ensures.items ∙ ap (λ w. written w c.args.from c.args.bytes.now) p.1.1) r)

pub returns-clause-shallow : goal.returns-clause-shallow
returns-clause-shallow g c s h some =
    let laws = tx_laws g.S.Blocks.meanings g.S.Blocks.holdings g.met.S.Blocks.lawful in
    on_any c.rewrite.result (c.in-Ok.ensures.shallow s (unforged_before laws c.args.tx.now c.read_root.new.tx c.rewrite.new.tx c.rewrite.ensures.outcome.loaded h))

pub returns-clause-below : goal.returns-clause-below
returns-clause-below g c = stays-then c.read_root.ensures.below c.rewrite.ensures.below

pub returns-in-Err-overwrite-clause-outcome : goal.returns-in-Err-overwrite-clause-outcome
returns-in-Err-overwrite-clause-outcome g c = no_memory c.in-Ok.ensures.outcome

pub returns-in-Err-clause-outcome : goal.returns-in-Err-clause-outcome
returns-in-Err-clause-outcome g c = passed c.in-Err.ensures.outcome

pub rewrite-requires-clause-there : goal.rewrite-requires-clause-there
rewrite-requires-clause-there g c = c.read_root.ensures.stays.ids c.args.root.now.0 ∙ c.in-Ok.ensures.there

pub rewrite-requires-clause-fits : goal.rewrite-requires-clause-fits
rewrite-requires-clause-fits g c = subst (λ p. FitsPayload p (node_of c.in-Ok.found.0)) (sym c.read_root.ensures.stays.payload) c.in-Ok.ensures.fits

pub returns-in-Err-clause-below : goal.returns-in-Err-clause-below
returns-in-Err-clause-below g c = c.read_root.ensures.below

pub returns-in-Err-overwrite-clause-below : goal.returns-in-Err-overwrite-clause-below
returns-in-Err-overwrite-clause-below g c = c.read_root.ensures.below
