use Rattle.std.proofs.Common.{arith}
use Rattle.store_api.proofs.Drafts.{forgotten}
use Rattle.store_api.proofs.Places.{sorted-others}
use Rattle.store_api.proofs.draft.Draft.forget.Goals as goal

pub invariant_of-self-in-None : goal.invariant_of-self-in-None
invariant_of-self-in-None c = (
  sorted-others c.self.inside.tree.entries c.take_out.new.tree.entries c.args.id.now.0 c.self.invariant.0 c.take_out.ensures.others,
  c.self.invariant.1,
  omega (arith, c.take_out.ensures.len, c.self.invariant.2),
)

pub returns-in-None : goal.returns-in-None
returns-in-None c =
    forgotten c.self.inside.given c.args.self.now c.self.inside.tree.entries c.take_out.new.tree.entries c.args.id.now.0 c.in-None.is c.self.view_is c.self.invariant.0 c.take_out.ensures.others
