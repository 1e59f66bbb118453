use Rattle.data_nodes.proofs.Laws.{one_node}
use Rattle.data_nodes.proofs.reading.one_reading.Goals as goal

pub returns : goal.returns
returns c = one_node
