use Rattle.data_tree.proofs.Puts.{on_ok_of, keeps_same}
use Rattle.data_reads.proofs.Anew.{root_made}
use Rattle.data_reads.proofs.rewriting.put_tree.Goals as goal

pub returns-in-Ok-clause-built : goal.returns-in-Ok-clause-built
returns-in-Ok-clause-built g c =
    let H = g.S.Blocks.holdings in
    on_ok_of c.put_node.result (λ sets. root_made c.args.root.now.0 sets.0 c.requires.there c.requires.deep c.in-Ok.ensures.built sets.1.0 sets.1.1.0 sets.1.1.1
    (keeps_same H c.args.tx.now c.build.new.tx c.build.ensures.adds.store) (keeps_same H c.build.new.tx c.put_node.new.tx c.put_node.ensures.puts.store)) c.put_node.ensures.sets

pub put_node-requires-clause-there : goal.put_node-requires-clause-there
put_node-requires-clause-there g c = c.build.ensures.adds.there c.args.root.now.0 c.requires.there
