use Rattle.std.proofs.Common.{◌∙◌, ap}
use Rattle.store_api.specs.Entries.{changes_of}
use Rattle.store_api.proofs.Places.{no_changes}
use Rattle.store_api.proofs.draft.Draft.new.Goals as goal

pub returns : goal.returns
returns c = ap changes_of c.new.ensures.empty ∙ no_changes
