use Rattle.block_id.specs.Contents.{resized}
use Rattle.blob_store.proofs.Calls.{replaced}
use Rattle.blob_store.proofs.store.BlobStoreBlobs.resize.Goals as goal

pub returns : goal.returns
returns g c = replaced g.S.Blocks.meanings g.S.Blocks.holdings (λ bytes. resized bytes c.args.n) c.args.self.now _ c.args.id.now.0 c.resize.result c.resize.ensures.outcome c.resize.ensures.below
