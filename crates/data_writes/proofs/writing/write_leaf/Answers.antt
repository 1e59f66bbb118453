use Rattle.std.proofs.Common.{◌+◌, ◌≤◌, subst, length, arith, inr}
use Rattle.data_tree.specs.store_outcome.Outcome.{idle}
use Rattle.data_tree.specs.data_nodes.Layout.{leaf}
use Rattle.data_tree.specs.store_api.Overlay.{changed_over}
use Rattle.data_tree.specs.Needs.{SetsNode}
use Rattle.data_tree.specs.store_api.Txs.{changes_in, drawn_in, store_in, tx_holdings, tx_laws}
use Rattle.data_tree.proofs.Puts.{memory_first}
use Rattle.data_tree.proofs.Leaving.{keeps_put}
use Rattle.data_writes.proofs.Leaves.{others_or}
use Rattle.data_writes.proofs.writing.write_leaf.Goals as goal

pub returns-in-Ok-put_node-clause-outcome : goal.returns-in-Ok-put_node-clause-outcome
returns-in-Ok-put_node-clause-outcome g c =
    let M = g.S.Blocks.meanings in
    let H = tx_holdings g.S.Blocks.holdings in
    let laws = tx_laws M g.S.Blocks.holdings g.met.S.Blocks.lawful in
    let a = c.args.tx.now in
    let d = c.put_node.new.tx in
    let none = idle laws {T = Unit {0}} {N = c.args.from + length c.args.bytes.now ≤ length c.args.old.now} {P = λ _ _. Unit {0}} a tt c.requires.intact (λ n. tt) in
    changed_over store_in changes_in drawn_in M g.S.Blocks.holdings a a d c.put_node.ensures.puts.store c.put_node.ensures.puts.seed c.put_node.ensures.intact none
    (λ n p. subst (λ w. SetsNode H a d c.args.id.now.0 (leaf w)) c.in-Ok.ensures c.in-Ok-put_node.ensures.sets)

pub returns-clause-outcome : goal.returns-clause-outcome
returns-clause-outcome g c = memory_first g.S.Blocks.meanings g.S.Blocks.holdings g.met.S.Blocks.lawful c.args.tx.now c.put_node.new.tx c.requires.intact c.put_node.ensures.puts.store c.put_node.ensures.puts.seed c.put_node.ensures.intact

pub returns-in-Ok-put_node-clause-others : goal.returns-in-Ok-put_node-clause-others
returns-in-Ok-put_node-clause-others g c = others_or c.args.tx.now.overlay c.put_node.new.tx.overlay c.args.id.now.0 (c.args.from + length c.args.bytes.now ≤ length c.args.old.now) c.put_node.ensures.puts.others (omega (arith, c.if-start-old.false, c.if-bytes-old.false))

pub returns-clause-others : goal.returns-clause-others
returns-clause-others g c = others_or c.args.tx.now.overlay c.put_node.new.tx.overlay c.args.id.now.0 (c.args.from + length c.args.bytes.now ≤ length c.args.old.now) c.put_node.ensures.puts.others (omega (arith, c.if-start-old.false, c.if-bytes-old.false))

pub returns-in-Ok-put_node-clause-keeps : goal.returns-in-Ok-put_node-clause-keeps
returns-in-Ok-put_node-clause-keeps g c = keeps_put g.S.Blocks.holdings c.args.tx.now c.put_node.new.tx c.put_node.ensures.puts c.put_node.ensures.there

pub returns-in-Ok-put_node-clause-few : goal.returns-in-Ok-put_node-clause-few
returns-in-Ok-put_node-clause-few g c = inr (c.put_node.ensures.puts.few, omega (arith, c.if-start-old.false, c.if-bytes-old.false))

pub returns-clause-keeps : goal.returns-clause-keeps
returns-clause-keeps g c = keeps_put g.S.Blocks.holdings c.args.tx.now c.put_node.new.tx c.put_node.ensures.puts c.put_node.ensures.there

pub returns-clause-few : goal.returns-clause-few
returns-clause-few g c = inr (c.put_node.ensures.puts.few, omega (arith, c.if-start-old.false, c.if-bytes-old.false))
