use Rattle.std.proofs.Common.{◌≡◌, sym, ◌∙◌, ap}
use Rattle.std.specs.Prelude.{slice_get, true, false}
use Rattle.std.specs.List.{remove}
use Rattle.store_api.specs.Entries.{entries_of, place, is_entry_of}
use Rattle.store_api.proofs.Places.{entries-remove_at, entries-no_remove}
use Rattle.store_api.proofs.batch.take_out.Goals as goal

pub returns-then-stands_at : goal.returns-then-stands_at
returns-then-stands_at c =
    let es = c.args.entries.now.items in
    let id = c.args.id.now.0 in
    let at : c.place_of-at.result ≡ place id (entries_of es) = c.place_of-at.ensures.value ∙ ap (λ xs. place id (entries_of xs)) c.deref.ensures.value in
    let is : is_entry_of id (slice_get (entries_of es) (place id (entries_of es))) ≡ true =
    ap (λ i. is_entry_of id (slice_get (entries_of es) i)) (sym at) ∙ (ap (λ xs. is_entry_of id (slice_get (entries_of xs) c.place_of-at.result)) (sym c.deref-2.ensures.value) ∙ (sym c.stands_at.ensures.value ∙ c.if-stands_at.true)) in
    ap entries_of c.remove.ensures.items ∙ (ap (λ i. entries_of (remove es i)) at ∙ entries-remove_at es id c.requires is)

pub returns-else-stands_at : goal.returns-else-stands_at
returns-else-stands_at c =
    let es = c.args.entries.now.items in
    let id = c.args.id.now.0 in
    let at : c.place_of-at.result ≡ place id (entries_of es) = c.place_of-at.ensures.value ∙ ap (λ xs. place id (entries_of xs)) c.deref.ensures.value in
    let isnt : is_entry_of id (slice_get (entries_of es) (place id (entries_of es))) ≡ false =
    ap (λ i. is_entry_of id (slice_get (entries_of es) i)) (sym at) ∙ (ap (λ xs. is_entry_of id (slice_get (entries_of xs) c.place_of-at.result)) (sym c.deref-2.ensures.value) ∙ (sym c.stands_at.ensures.value ∙ c.if-stands_at.false)) in
    entries-no_remove id (entries_of es) c.requires isnt
