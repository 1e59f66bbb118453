use Rattle.std.proofs.Common.{◌≡◌, ◌∙◌, ap, ◌++◌, arith}
use Rattle.data_tree.specs.data_nodes.Layout.{node_of}
use Rattle.data_tree.specs.store_outcome.Outcome.{then_, failed_, answered, passed}
use Rattle.data_reads.specs.Reading.{between}
use Rattle.data_tree.specs.store_api.Txs.{tx_laws}
use Rattle.data_tree.proofs.Forests.{below_on, below_root, stays-then}
use Rattle.data_reads.proofs.Parts.{counted}
use Rattle.data_tree.proofs.Puts.{unforged_before}
use Rattle.data_reads.proofs.tree.read_range.Goals as goal

pub returns-in-Ok-read_in-clause-outcome : goal.returns-in-Ok-read_in-clause-outcome
returns-in-Ok-read_in-clause-outcome g c =
    let laws = tx_laws g.S.Blocks.meanings g.S.Blocks.holdings g.met.S.Blocks.lawful in
    let two = then_ laws {R = λ n _. c.read_in.new.out.items ≡ c.new-out.result.items ++ between c.args.from c.saturating_add.result n.bytes} c.in-Ok.ensures.outcome
    (λ n p. below_on c.load_root.ensures.stays (below_root (node_of c.in-Ok.found.0) c.in-Ok.found.1.depth p.0 n p.1 c.in-Ok.ensures.level.depth)) c.in-Ok-read_in.ensures.outcome (λ n p y h. h) in
    answered two (λ n p. p ∙ ap (λ xs. xs ++ between c.args.from c.saturating_add.result n.bytes) c.new-out.ensures.items ∙ counted c.args.from c.args.count c.saturating_add.result _ n.bytes c.saturating_add.ensures (omega (arith, n.small)))

pub returns-clause-outcome : goal.returns-clause-outcome
returns-clause-outcome g c =
    let laws = tx_laws g.S.Blocks.meanings g.S.Blocks.holdings g.met.S.Blocks.lawful in
    failed_ laws c.in-Ok.ensures.outcome (λ n p. below_on c.load_root.ensures.stays (below_root (node_of c.in-Ok.found.0) c.in-Ok.found.1.depth p.0 n p.1 c.in-Ok.ensures.level.depth)) c.in-Err-read_in.ensures.outcome

pub returns-in-Ok-read_in-clause-shallow : goal.returns-in-Ok-read_in-clause-shallow
returns-in-Ok-read_in-clause-shallow g c s h =
    let laws = tx_laws g.S.Blocks.meanings g.S.Blocks.holdings g.met.S.Blocks.lawful in
    c.in-Ok.ensures.shallow s (unforged_before laws c.args.tx.now c.load_root.new.tx c.read_in.new.tx c.read_in.ensures.outcome.loaded h)

pub returns-in-Ok-read_in-clause-stays : goal.returns-in-Ok-read_in-clause-stays
returns-in-Ok-read_in-clause-stays g c = stays-then c.load_root.ensures.stays c.read_in.ensures.stays

pub returns-in-Ok-read_in-clause-below : goal.returns-in-Ok-read_in-clause-below
returns-in-Ok-read_in-clause-below g c = stays-then c.load_root.ensures.leaves.below c.read_in.ensures.below

pub returns-clause-stays : goal.returns-clause-stays
returns-clause-stays g c = stays-then c.load_root.ensures.stays c.read_in.ensures.stays

pub returns-clause-below : goal.returns-clause-below
returns-clause-below g c = stays-then c.load_root.ensures.leaves.below c.read_in.ensures.below

pub returns-in-Err-clause-outcome : goal.returns-in-Err-clause-outcome
returns-in-Err-clause-outcome g c = passed c.in-Err.ensures.outcome
