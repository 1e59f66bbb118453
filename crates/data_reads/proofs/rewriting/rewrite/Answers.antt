use Rattle.std.proofs.Common.{[], ◌∷◌}
use Rattle.data_tree.specs.store_outcome.Outcome.{idle, then_}
use Rattle.data_tree.specs.data_nodes.Layout.{node_of}
use Rattle.data_reads.specs.Rewriting.{HasRootNode}
use Rattle.data_tree.specs.Roots.{IsNewRoot}
use Rattle.data_tree.specs.store_api.Txs.{tx_holdings, tx_laws}
use Rattle.data_tree.proofs.Puts.{changed_, keeps_same, keeps_below, memory_first}
use Rattle.data_reads.proofs.Anew.{old_below, anew}
use Rattle.data_reads.proofs.rewriting.rewrite.Goals as goal

pub returns-in-Ok-clause-outcome : goal.returns-in-Ok-clause-outcome
returns-in-Ok-clause-outcome g c =
    let M = g.S.Blocks.meanings in
    let H = g.S.Blocks.holdings in
    let laws = tx_laws M H g.met.S.Blocks.lawful in
    let a = c.args.tx.now in
    let b = c.put_tree.new.tx in
    let root = c.args.root.now.0 in
    let node = node_of c.args.node.now in
    let none = idle laws {T = Unit {0}} {N = HasRootNode (tx_holdings H) a root node} {P = λ _ _. Unit {0}} a tt c.requires.intact (λ n. tt) in
    let one = changed_ M H {R = λ n. IsNewRoot (tx_holdings H) a b root (root ∷ []) c.args.bytes.now} a a b c.put_tree.ensures.store c.put_tree.ensures.seed c.put_tree.ensures.intact none (λ n p. c.in-Ok.ensures.built) in
    then_ laws one (λ n r. old_below c.depth_of.result c.depth_of.ensures (keeps_same H a b c.put_tree.ensures.store) n r) c.drop_in.ensures.outcome
    (λ n r y k. anew n r (keeps_below H b c.drop_in.new.tx c.drop_in.ensures.below) k)

pub returns-in-Err-clause-outcome : goal.returns-in-Err-clause-outcome
returns-in-Err-clause-outcome g c = memory_first g.S.Blocks.meanings g.S.Blocks.holdings g.met.S.Blocks.lawful c.args.tx.now c.put_tree.new.tx c.requires.intact c.put_tree.ensures.store c.put_tree.ensures.seed c.put_tree.ensures.intact
