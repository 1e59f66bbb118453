use Rattle.store_api.proofs.Drafts.{looked_some, looked_none}
use Rattle.store_api.proofs.draft.find.Goals as goal

pub returns-clause-some : goal.returns-clause-some
returns-clause-some c = looked_some c.args.id.now.0 c.args.tree.now.entries c.get.result c.get.ensures.value

pub returns-clause-none : goal.returns-clause-none
returns-clause-none c = looked_none c.args.id.now.0 c.args.tree.now.entries c.get.result c.get.ensures.value
