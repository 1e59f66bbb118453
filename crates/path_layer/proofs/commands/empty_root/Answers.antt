use Rattle.std.specs.Prelude.{◌≡◌, length}
use Rattle.blob_store.specs.data_nodes.Layout.{leaf, IsNode}
use Rattle.path_layer.proofs.Shows.{leaf_shows, both_ok}
use Rattle.path_layer.proofs.commands.empty_root.Goals as goal

pub returns-clause-shows : goal.returns-clause-shows
returns-clause-shows c = both_ok c.write_node.result (λ bytes. length bytes.items ≡ c.args.payload) (λ bytes. IsNode bytes.items (leaf c.in_ok-blob.blob.items)) _
    (λ bytes len node root content wide alone. leaf_shows c.args.payload root content bytes.items c.in_ok-blob.blob.items node len (c.in_ok-blob.ensures.shows root wide) alone)
    c.write_node.ensures.len c.write_node.ensures.node
