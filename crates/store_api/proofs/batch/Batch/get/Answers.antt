use Rattle.std.proofs.Common.{◌≡◌, IfSome, IfNone, Some, None, subst}
use Rattle.store_api.specs.Entries.{change_view}
use Rattle.store_api.proofs.Places.{get-changes}
use Rattle.store_api.proofs.batch.Batch.get.Goals as goal

pub returns-clause-some : goal.returns-clause-some
returns-clause-some c =
    subst (λ o. IfSome c.find.result (λ change. o ≡ Some (change_view change.now)))
    (get-changes c.args.self.now c.self.inside.entries.items c.deref.result.now c.args.id.now.0 c.self.view_is c.self.invariant c.deref.ensures.value)
    c.find.ensures.some

pub returns-clause-none : goal.returns-clause-none
returns-clause-none c =
    subst (λ o. IfNone c.find.result (o ≡ None))
    (get-changes c.args.self.now c.self.inside.entries.items c.deref.result.now c.args.id.now.0 c.self.view_is c.self.invariant c.deref.ensures.value)
    c.find.ensures.none
