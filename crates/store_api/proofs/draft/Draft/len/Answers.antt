use Rattle.std.proofs.Common.{◌∙◌}
use Rattle.store_api.proofs.Drafts.{tree_entries}
use Rattle.store_api.proofs.Places.{len-changes}
use Rattle.store_api.proofs.draft.Draft.len.Goals as goal

pub returns-in-None : goal.returns-in-None
returns-in-None c =
    let es = c.self.inside.tree.entries in
    c.len-in-None.ensures.len ∙ len-changes c.args.self.now es (tree_entries es c.self.inside.given c.args.self.now c.in-None.is c.self.view_is c.self.invariant.0)
