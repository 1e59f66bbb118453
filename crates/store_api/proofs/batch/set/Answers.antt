use Rattle.std.proofs.Common.{◌≡◌, sym, ◌∙◌, ap, subst}
use Rattle.std.specs.Prelude.{slice_get, slice_set, Some, None, length, ◌<◌, true, false}
use Rattle.std.specs.List.{insert}
use Rattle.std.specs.FinMap.Entries.{find}
use Rattle.std.proofs.lemmas.Option.{slice_get-get_or}
use Rattle.store_api.specs.Changes.{id_cmp}
use Rattle.store_api.specs.Entries.{entries_of, place, is_entry_of}
use Rattle.store_api.proofs.Places.{entries-set_at, entries-insert_at, same-here, none-here, find-place, own_change}
use Rattle.store_api.proofs.batch.set.Goals as goal

pub returns-then-stands_at-clause-ok : goal.returns-then-stands_at-clause-ok
returns-then-stands_at-clause-ok c =
    let es = c.args.entries.now.items in
    let id = c.args.id.now.0 in
    let i = c.place_of-at.result in
    let at : i ≡ place id (entries_of es) = c.place_of-at.ensures.value ∙ ap (λ xs. place id (entries_of xs)) c.deref.ensures.value in
    let is : is_entry_of id (slice_get (entries_of es) i) ≡ true = ap (λ xs. is_entry_of id (slice_get (entries_of xs) i)) (sym c.deref-2.ensures.value) ∙ (sym c.stands_at.ensures.value ∙ c.if-stands_at.true) in
    let lt : i < length es = subst (λ xs. i < length xs) c.deref-2.ensures.value (c.stands_at.ensures.in_range c.if-stands_at.true) in
    let here : slice_get es i ≡ Some c.index_mut.result.now = slice_get-get_or es i _ lt ∙ ap Some (sym c.index_mut.ensures.value) in
    ap (λ j. entries_of (slice_set es j (c.index_mut.result.now.0, c.args.change))) at
    ∙ entries-set_at es id c.index_mut.result.now c.args.change (ap (slice_get es) (sym at) ∙ here) (same-here id es i c.index_mut.result.now here is)

pub returns-clause-ok : goal.returns-clause-ok
returns-clause-ok c =
    let es = c.args.entries.now.items in
    let id = c.args.id.now.0 in
    let i = c.place_of-at.result in
    let at : i ≡ place id (entries_of es) = c.place_of-at.ensures.value ∙ ap (λ xs. place id (entries_of xs)) c.deref.ensures.value in
    let isnt : is_entry_of id (slice_get (entries_of es) i) ≡ false = ap (λ xs. is_entry_of id (slice_get (entries_of xs) i)) (sym c.deref-2.ensures.value) ∙ (sym c.stands_at.ensures.value ∙ c.if-stands_at.false) in
    let none : find id_cmp id (entries_of es) ≡ None = find-place id (entries_of es) c.requires ∙ (ap (λ j. own_change id (slice_get (entries_of es) j)) (sym at) ∙ none-here id (slice_get (entries_of es) i) isnt) in
    ap entries_of c.in_ok-insert.ensures.items ∙ (ap (λ j. entries_of (insert es j (c.args.id.now, c.args.change))) at ∙ entries-insert_at es (c.args.id.now, c.args.change) none)
