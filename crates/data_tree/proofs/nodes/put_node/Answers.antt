use Rattle.std.proofs.Common.{◌∙◌}
use Rattle.std.specs.Prelude.{Some}
use Rattle.data_tree.proofs.Puts.{on_ok_of, put_sets, there_then, others_then, few_then}
use Rattle.data_tree.proofs.nodes.put_node.Goals as goal

pub returns-clause-sets : goal.returns-clause-sets
returns-clause-sets g c =
    let H = g.S.Blocks.holdings in
    let text = c.in_ok-payload.payload.items in
    on_ok_of c.put.result (λ is. (text, (c.in_ok-payload.ensures.node, (c.in_ok-payload.ensures.len ∙ c.payload.ensures, put_sets H c.args.tx.now c.put.new.self c.args.id.now.0 (Some text) c.put.ensures.store is)))) c.put.ensures.ok

pub returns-clause-there : goal.returns-clause-there
returns-clause-there g c = there_then g.S.Blocks.holdings c.args.tx.now c.put.new.self c.args.id.now.0 c.in_ok-payload.payload.items c.put.result c.put.ensures.store c.put.ensures.ok c.put.ensures.err

pub returns-clause-puts : goal.returns-clause-puts
returns-clause-puts g c =
    let old = c.args.tx.now.overlay in
    let new = c.put.new.self.overlay in
    let id = c.args.id.now.0 in
    let change = Some c.in_ok-payload.payload.items in
    record {
      store = c.put.ensures.store;
      seed = c.put.ensures.seed;
      others = others_then old new id change c.put.result c.put.ensures.ok c.put.ensures.err;
      few = few_then old new id change c.put.result c.put.ensures.ok c.put.ensures.err;
    }
