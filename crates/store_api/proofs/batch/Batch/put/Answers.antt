use Rattle.std.proofs.Common.{Some}
use Rattle.store_api.proofs.Places.{kept-sorted, kept-changes}
use Rattle.store_api.proofs.batch.Batch.put.Goals as goal

pub invariant_of-self : goal.invariant_of-self
invariant_of-self c = kept-sorted c.set.result c.self.inside.entries.items c.set.new.entries.items c.args.id.now.0 (Some c.args.payload.items) c.self.invariant c.set.ensures.ok c.set.ensures.err

pub returns-clause-ok : goal.returns-clause-ok
returns-clause-ok c = kept-changes c.set.result c.args.self.now c.self.inside.entries.items c.set.new.entries.items c.args.id.now.0 (Some c.args.payload.items) c.self.view_is c.self.invariant c.set.ensures.ok
