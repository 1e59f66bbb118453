use Rattle.std.proofs.Common.{◌∙◌, ap}
use Rattle.store_api.specs.Entries.{entries_of}
use Rattle.store_api.proofs.Drafts.{entries-remove_entry}
use Rattle.store_api.proofs.draft.take_out.Goals as goal

pub returns-clause-others : goal.returns-clause-others
returns-clause-others c = ap entries_of c.remove.ensures.entries ∙ entries-remove_entry c.args.id.now.0 c.args.tree.now.entries c.requires
