use Rattle.std.proofs.Common.{◌∙◌}
use Rattle.store_api.specs.Entries.{change_view}
use Rattle.store_api.proofs.Places.{same_some}
use Rattle.store_api.proofs.batch.Batch.has.Goals as goal

pub returns : goal.returns
returns c = c.is_some.ensures ∙ same_some c.get.result _ (λ change. change_view change.now) c.get.ensures.some c.get.ensures.none
