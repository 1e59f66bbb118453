use Rattle.std.proofs.Common.{◌∙◌, ap}
use Rattle.store_api.specs.Entries.{entries_of}
use Rattle.store_api.proofs.Drafts.{entries-insert_entry}
use Rattle.store_api.proofs.draft.set.Goals as goal

pub returns-clause-ok : goal.returns-clause-ok
returns-clause-ok c = ap entries_of c.in_ok-insert.ensures.entries ∙ entries-insert_entry c.args.tree.now.entries c.args.id.now c.args.change
