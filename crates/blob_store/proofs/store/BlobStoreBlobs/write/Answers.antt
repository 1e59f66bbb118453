use Rattle.std.proofs.Common.{length}
use Rattle.block_id.specs.Contents.{written}
use Rattle.blob_store.proofs.Calls.{replaced, sparing}
use Rattle.blob_store.proofs.store.BlobStoreBlobs.write.Goals as goal

pub returns-clause-outcome : goal.returns-clause-outcome
returns-clause-outcome g c = replaced g.S.Blocks.meanings g.S.Blocks.holdings (λ bytes. written bytes c.args.from c.args.bytes.now)
    c.args.self.now _ c.args.id.now.0 c.write_range.result c.write_range.ensures.outcome c.write_range.ensures.below

pub returns-clause-sparing : goal.returns-clause-sparing
returns-clause-sparing g c = sparing g.S.Blocks.meanings g.S.Blocks.holdings c.args.self.now (record { tx = c.write_range.new.tx }) c.args.id.now.0 c.args.from (length c.args.bytes.now) (λ n s h. (c.write_range.ensures.inside n s h).few)
