use Rattle.std.proofs.Common.{◌≡◌, map, sym, ◌∙◌, ap, subst, refl, Some}
use Rattle.data_tree.specs.store_api.Content.{id_cmp}
use Rattle.plain_rows.specs.Sorted.{IsElementAt}
use Rattle.std.proofs.Math.ListN.{set}
use Rattle.check_walk.specs.Marks.{mark_entry, owner_of, MarkedOne}
use Rattle.check_walk.proofs.Marking.{set-marks, set-sorted, not_zero}
use Rattle.check_walk.proofs.marks.Marks.reach.Goals as goal

pub returns-then-index-ne0 : goal.returns-then-index-ne0
returns-then-index-ne0 c =
    let at = subst (λ z. IsElementAt id_cmp mark_entry z c.args.id.now.0 c.in-Ok.i) c.deref.ensures.value c.in-Ok.ensures.found in
    let owns = at.found c.index.result.now ∙ ap (λ m. Some (mark_entry m).1) (sym c.index.ensures) in
    (refl, (c.index.result.now.owner, (not_zero c.index.result.now.owner c.if-index-ne0.true, subst (λ z. owner_of z c.args.id.now.0 ≡ Some c.index.result.now.owner) c.self.view_is owns)))

pub invariant_of-self : goal.invariant_of-self
invariant_of-self c =
    let at = subst (λ z. IsElementAt id_cmp mark_entry z c.args.id.now.0 c.in-Ok.i) c.deref.ensures.value c.in-Ok.ensures.found in
    set-sorted c.self.inside.marks.items c.in-Ok.i (record { id = c.args.id.now; owner = c.args.owner }) c.args.id.now.0 c.self.invariant at refl

pub returns-else-index-ne0 : goal.returns-else-index-ne0
returns-else-index-ne0 c =
    let at = subst (λ z. IsElementAt id_cmp mark_entry z c.args.id.now.0 c.in-Ok.i) c.deref.ensures.value c.in-Ok.ensures.found in
    subst (λ z. MarkedOne z (map mark_entry (set c.self.inside.marks.items c.in-Ok.i (record { id = c.args.id.now; owner = c.args.owner }))) c.args.id.now.0 c.args.owner) c.self.view_is
    (set-marks c.self.inside.marks.items c.in-Ok.i (record { id = c.args.id.now; owner = c.args.owner }) c.index.result.now c.args.id.now.0 c.args.owner c.self.invariant at refl refl
    (ap (λ m. m.owner) (sym c.index.ensures) ∙ c.if-index-ne0.false))
