use Rattle.std.proofs.Common.{sym, ◌∙◌, ap}
use Rattle.std.specs.FinMap.{entries-from_sorted}
use Rattle.std.specs.FinMap as fin
use Rattle.store_api.specs.Changes.{id_cmp}
use Rattle.store_api.specs.Entries.{entries_of}
use Rattle.store_api.proofs.batch.Batch.entries.Goals as goal

pub returns : goal.returns
returns c = ap entries_of c.deref.ensures.value ∙ sym (entries-from_sorted id_cmp (entries_of c.self.inside.entries.items) c.self.invariant) ∙ ap fin.entries c.self.view_is
