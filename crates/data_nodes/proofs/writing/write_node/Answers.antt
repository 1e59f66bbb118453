-- The text and its fill are the payload.
use Rattle.std.proofs.Common.{◌≡◌, ◌++◌, ◌∙◌, ap}
use Rattle.std.specs.Vec.{vec_len}
use Rattle.data_nodes.specs.Layout.{node_of, text_of}
use Rattle.data_nodes.proofs.Laws.{sized, written}
use Rattle.data_nodes.proofs.writing.write_node.Goals as goal

pub put_node-requires : goal.put_node-requires
put_node-requires c = sized c.args.payload (node_of c.args.node.now) c.requires.payload.1 c.requires.fits

pub returns-clause-node : goal.returns-clause-node
returns-clause-node c =
    let text : c.put_node.new.out.items ≡ text_of (node_of c.args.node.now) = c.in_ok-put_node.ensures.text ∙ ap (λ out. out ++ text_of (node_of c.args.node.now)) c.in_ok-out.ensures.items in
    written c.args.payload (node_of c.args.node.now) c.put_node.new.out.items c.resize.new.self.items (vec_len c.put_node.new.out) c.requires.payload.0 c.in_ok-put_node.ensures.types c.requires.fits text c.put_node.new.out.ok.0 c.in_ok-resize.ensures.items
