-- Where an entry stands that a body has.
use Rattle.std.proofs.Common.{◌≡◌, drop, true, false, sym, ◌∙◌, ap, subst, arith}
use Rattle.std.specs.Prelude.{is_some, not}
use Rattle.dir_entries.specs.Places.{IsPlace}
use Rattle.dir_entries.proofs.Found.{present_is, found_there}
use Rattle.dir_blob.proofs.bodies.held_at.Goals as goal
use Rattle.dir_blob.proofs.bodies.held_at.Goals.{then-is_none-via-then-is_none, then-is_none-via-else-is_none+then-body-gt-MAX_BODY}

pub returns-in_default-clause-place : goal.returns-in_default-clause-place
returns-in_default-clause-place c = λ listing target is found fits. absurd (rw c.in_default.is at (c.locate.ensures.place listing is))

pub returns-then-is_none-clause-place : goal.returns-then-is_none-clause-place
returns-then-is_none-clause-place c = λ listing target is found fits.
    let place = c.in-Some.ensures.place listing is in
    let there : is_some c.in-Some.place.found ≡ true = present_is c.in-Some.place.found target (sym place.finds ∙ found) in
    elim c.then-is_none.branch [
      | then-is_none-via-then-is_none w ↦ let bad : true ≡ false = sym there ∙ (c.is_none.ensures ∙ ap not w.if-is_none.true) in cc
      | then-is_none-via-else-is_none+then-body-gt-MAX_BODY w ↦ omega (arith, fits, w.if-body-gt-MAX_BODY.true)
    ]

pub returns-clause-place : goal.returns-clause-place
returns-clause-place c = λ listing target is found fits.
    let place = c.in-Some.ensures.place listing is in
    subst (λ o. IsPlace c.args.name.now listing c.in-Some.place.front o (drop c.in-Some.place.back c.args.body.now)) (sym place.finds ∙ found) place

pub returns-clause-present : goal.returns-clause-present
returns-clause-present c = λ listing is.
    let place = c.in-Some.ensures.place listing is in
    ap is_some place.finds ∙ found_there c.in-Some.place.found (c.is_none.ensures ∙ ap not c.if-is_none.false)
