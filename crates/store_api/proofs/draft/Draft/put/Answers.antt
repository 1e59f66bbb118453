use Rattle.std.proofs.Common.{Some}
use Rattle.store_api.proofs.Drafts.{set-sorted, set-drafted}
use Rattle.store_api.proofs.draft.Draft.put.Goals as goal

pub invariant_of-self-in-None : goal.invariant_of-self-in-None
invariant_of-self-in-None c = (
  set-sorted c.set.result c.self.inside.tree.entries c.set.new.tree.entries c.args.id.now.0 (Some c.args.payload.items) c.self.invariant.0 c.set.ensures.ok c.set.ensures.err,
  c.set.ensures.empty,
  c.set.ensures.room,
)

pub returns-in-None-clause-ok : goal.returns-in-None-clause-ok
returns-in-None-clause-ok c =
    set-drafted c.set.result c.self.inside.given c.args.self.now c.self.inside.tree.entries c.set.new.tree.entries c.args.id.now.0 (Some c.args.payload.items) c.in-None.is c.self.view_is c.self.invariant.0 c.set.ensures.ok
