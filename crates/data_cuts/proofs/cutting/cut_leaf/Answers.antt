use Rattle.std.proofs.Common.{refl}
use Rattle.data_tree.proofs.Puts.{memory_first}
use Rattle.data_cuts.proofs.Drops.{drops_put}
use Rattle.data_cuts.proofs.cutting.cut_leaf.Goals as goal

pub returns-in-Ok-put_node-clause-drops : goal.returns-in-Ok-put_node-clause-drops
returns-in-Ok-put_node-clause-drops g c = drops_put g.S.Blocks.holdings c.args.tx.now c.put_node.new.tx c.args.id.now.0 c.requires.there c.put_node.ensures.puts

pub returns-clause-drops : goal.returns-clause-drops
returns-clause-drops g c = drops_put g.S.Blocks.holdings c.args.tx.now c.put_node.new.tx c.args.id.now.0 c.requires.there c.put_node.ensures.puts

pub returns-in-Err-clause-outcome : goal.returns-in-Err-clause-outcome
returns-in-Err-clause-outcome g c = memory_first g.S.Blocks.meanings g.S.Blocks.holdings g.met.S.Blocks.lawful c.args.tx.now c.args.tx.now c.requires.intact refl refl c.requires.intact

pub returns-clause-outcome : goal.returns-clause-outcome
returns-clause-outcome g c = memory_first g.S.Blocks.meanings g.S.Blocks.holdings g.met.S.Blocks.lawful c.args.tx.now c.put_node.new.tx c.requires.intact c.put_node.ensures.puts.store c.put_node.ensures.puts.seed c.put_node.ensures.intact
