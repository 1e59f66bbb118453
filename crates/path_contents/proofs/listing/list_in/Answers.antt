use Rattle.std.proofs.Common.{map, ◌∙◌, ap}
use Rattle.std.proofs.lemmas.Result.{err_from_is_err_and}
use Rattle.path_walks.specs.store_outcome.Outcome.{first_, passed, answered}
use Rattle.fs_model.specs.declared.reply.Reply.TheVariants.{Rows}
use Rattle.path_walks.specs.dir_entries.Layout.{listing_of}
use Rattle.path_contents.specs.Listed.{shown_row}
use Rattle.path_contents.proofs.Folder.{directory, rows_told}
use Rattle.path_contents.proofs.listing.list_in.Goals as goal

pub returns-clause-outcome : goal.returns-clause-outcome
returns-clause-outcome g c = answered (first_ (λ w. directory w) c.in_ok-found.ensures.outcome (λ w y h. h)) (λ w h. (h.0, ap Rows (c.new.ensures ∙ (c.in_ok-rows.ensures ∙ (ap (λ es. map shown_row (listing_of es)) c.deref.ensures.value ∙ ap (map shown_row) h.1))) ∙ rows_told w))

pub returns-in_err-found-clause-outcome : goal.returns-in_err-found-clause-outcome
returns-in_err-found-clause-outcome g c =
    let p = err_from_is_err_and c.from_residual.result c.from_residual.ensures.1 in
    rw (p.1, p.2) (passed (first_ (λ w. directory w) c.in_err-found.ensures.outcome (λ w y h. h)))
