use Rattle.blob_store.proofs.Calls.{dropped}
use Rattle.blob_store.proofs.store.BlobStoreBlobs.remove.Goals as goal

pub returns : goal.returns
returns g c = dropped g.S.Blocks.meanings g.S.Blocks.holdings c.args.self.now _ c.args.id.now.0 c.drop_tree.result c.drop_tree.ensures.outcome c.drop_tree.ensures.below
