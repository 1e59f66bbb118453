use Rattle.std.proofs.Common.{◌≡◌, refl, IfSome, IfNone, Some, None, subst}
use Rattle.store_api.specs.Entries.{change_view}
use Rattle.store_api.proofs.Drafts.{in_tree}
use Rattle.store_api.proofs.Places.{get-changes}
use Rattle.store_api.proofs.draft.Draft.get.Goals as goal

pub returns-in-None-clause-some : goal.returns-in-None-clause-some
returns-in-None-clause-some c =
    let es = c.self.inside.tree.entries in
    subst (λ o. IfSome c.find.result (λ change. o ≡ Some (change_view change.now)))
    (get-changes c.args.self.now es es c.args.id.now.0 (in_tree es c.self.inside.given c.args.self.now c.in-None.is c.self.view_is) c.self.invariant.0 refl)
    c.find.ensures.some

pub returns-in-None-clause-none : goal.returns-in-None-clause-none
returns-in-None-clause-none c =
    let es = c.self.inside.tree.entries in
    subst (λ o. IfNone c.find.result (o ≡ None))
    (get-changes c.args.self.now es es c.args.id.now.0 (in_tree es c.self.inside.given c.args.self.now c.in-None.is c.self.view_is) c.self.invariant.0 refl)
    c.find.ensures.none
