use Rattle.blob_store.proofs.Calls.{made}
use Rattle.blob_store.proofs.store.BlobStoreBlobs.create.Goals as goal

pub returns : goal.returns
returns g c = made g.S.Blocks.meanings g.S.Blocks.holdings c.args.bytes.now c.args.self.now _ c.new_tree.result c.new_tree.ensures.outcome c.new_tree.ensures.below
