use Rattle.std.proofs.Common.{arith}
use Rattle.data_nodes.proofs.Laws.{read_is_found, read_is_only}
use Rattle.data_nodes.proofs.reading.read_node.Goals as goal

pub returns-clause-found : goal.returns-clause-found
returns-clause-found c = read_is_found c.args.payload.now c.node_from.result (λ i. omega (arith, c.type_inv.payload i)) c.node_from.ensures

pub returns-clause-only : goal.returns-clause-only
returns-clause-only c = read_is_only c.args.payload.now c.node_from.result c.node_from.ensures
