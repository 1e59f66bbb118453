use Rattle.std.proofs.Common.{sym, ◌∙◌, ap}
use Rattle.std.specs.Prelude.{slice_get}
use Rattle.store_api.specs.Entries.{entries_of}
use Rattle.store_api.proofs.Places.{find-place, own_change, own-here, none-here}
use Rattle.store_api.proofs.batch.find.Goals as goal

pub returns-then-stands_at-clause-some : goal.returns-then-stands_at-clause-some
returns-then-stands_at-clause-some c =
    let es = c.args.entries.now in
    let id = c.args.id.now.0 in
    find-place id (entries_of es) c.requires
    ∙ (ap (λ i. own_change id (slice_get (entries_of es) i)) (sym c.place_of-at.ensures.value)
    ∙ own-here id es c.place_of-at.result c.index-entries-at.result (c.stands_at.ensures.in_range c.if-stands_at.true) (sym c.stands_at.ensures.value ∙ c.if-stands_at.true))

pub returns-else-stands_at-clause-none : goal.returns-else-stands_at-clause-none
returns-else-stands_at-clause-none c =
    let es = c.args.entries.now in
    let id = c.args.id.now.0 in
    find-place id (entries_of es) c.requires
    ∙ (ap (λ i. own_change id (slice_get (entries_of es) i)) (sym c.place_of-at.ensures.value)
    ∙ none-here id (slice_get (entries_of es) c.place_of-at.result) (sym c.stands_at.ensures.value ∙ c.if-stands_at.false))
