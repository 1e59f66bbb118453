use Rattle.std.proofs.Common.{◌≡◌, take, drop}
use Rattle.blob_store.proofs.Calls.{looked}
use Rattle.blob_store.proofs.store.BlobStoreBlobs.read.Goals as goal

pub returns-clause-outcome : goal.returns-clause-outcome
returns-clause-outcome g c = looked g.S.Blocks.meanings g.S.Blocks.holdings (λ bytes part. part.items ≡ take c.args.count (drop c.args.from bytes))
    c.args.self.now _ c.args.id.now.0 c.read_range.result c.read_range.ensures.outcome c.read_range.ensures.stays
