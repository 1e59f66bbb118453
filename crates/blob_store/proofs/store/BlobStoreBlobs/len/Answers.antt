use Rattle.std.proofs.Common.{◌≡◌, length}
use Rattle.blob_store.proofs.Calls.{looked}
use Rattle.blob_store.proofs.store.BlobStoreBlobs.len.Goals as goal

pub returns-clause-outcome : goal.returns-clause-outcome
returns-clause-outcome g c = looked g.S.Blocks.meanings g.S.Blocks.holdings (λ bytes len. len ≡ length bytes) c.args.self.now _ c.args.id.now.0 c.len.result c.len.ensures.outcome c.len.ensures.stays
