use Rattle.store_api.proofs.Drafts.{drafted-nothing}
use Rattle.store_api.proofs.draft.Draft.take.Goals as goal

pub returns-clause-left : goal.returns-clause-left
returns-clause-left c = drafted-nothing c.move_all.new.tree.entries c.replace-given.new.dest c.replace-given.ensures.after c.move_all.ensures.left
