use Rattle.std.proofs.Common.{◌≡◌, sym, ◌∙◌, ap}
use Rattle.std.specs.Prelude.{slice_get, Some}
use Rattle.std.specs.Option.{option_map}
use Rattle.std.specs.List.{slice_index_or}
use Rattle.std.proofs.lemmas.Option.{slice_get-map, slice_get-get_or}
use Rattle.std.specs.Ordering.{is_gt}
use Rattle.store_api.specs.Entries.{entry_view, entries_of}
use Rattle.store_api.proofs.Places.{stands_before, stands_behind}
use Rattle.store_api.proofs.batch.is_behind.Goals as goal

pub returns-clause-behind : goal.returns-clause-behind
returns-clause-behind c = λ above.
    let es = c.args.entries.now in
    let at : slice_get (entries_of es) c.args.at ≡ Some (entry_view (slice_index_or es c.args.at c.index-entries-at.result)) = slice_get-map entry_view es c.args.at ∙ ap (option_map entry_view) (slice_get-get_or es c.args.at c.index-entries-at.result c.requires.within) in
    stands_behind c.args.id.now.0 (entries_of es) c.args.at _ c.requires.rises at (ap is_gt (sym c.cmp.ensures) ∙ (sym c.is_gt.ensures ∙ above))

pub returns-clause-before : goal.returns-clause-before
returns-clause-before c = λ above.
    let es = c.args.entries.now in
    let at : slice_get (entries_of es) c.args.at ≡ Some (entry_view (slice_index_or es c.args.at c.index-entries-at.result)) = slice_get-map entry_view es c.args.at ∙ ap (option_map entry_view) (slice_get-get_or es c.args.at c.index-entries-at.result c.requires.within) in
    stands_before c.args.id.now.0 (entries_of es) c.args.at _ at (ap is_gt (sym c.cmp.ensures) ∙ (sym c.is_gt.ensures ∙ above))
