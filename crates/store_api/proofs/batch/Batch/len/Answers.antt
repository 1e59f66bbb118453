use Rattle.store_api.proofs.Places.{len-changes}
use Rattle.store_api.proofs.batch.Batch.len.Goals as goal

pub returns : goal.returns
returns c = len-changes c.args.self.now c.entries.result.now c.entries.ensures
