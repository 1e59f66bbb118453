use Rattle.std.proofs.Common.{◌∙◌, ap}
use Rattle.std.specs.Prelude.{nat_lt}
use Rattle.std.proofs.lemmas.Result.{err_from_is_err_and}
use Rattle.path_walks.specs.store_outcome.Outcome.{first_, passed, answered}
use Rattle.fs_model.proofs.SizeLemmas.{has_child-size}
use Rattle.path_walks.proofs.dir_blob_lemmas.Needs.{blob_of}
use Rattle.path_walks.proofs.Nodes.{size_at}
use Rattle.path_walks.proofs.Steps.{directory_seen, folder_is}
use Rattle.path_rows.proofs.folders.has_child.Goals as goal

pub returns-in_err-body_len-clause-outcome : goal.returns-in_err-body_len-clause-outcome
returns-in_err-body_len-clause-outcome g c =
    let p = err_from_is_err_and c.from_residual.result c.from_residual.ensures.1 in
    rw (p.1, p.2) (passed (first_ (λ w. blob_of (directory_seen w.standing.shows w.standing.stands w.standing.path c.args.place.now w.standing.at w.folder)) c.in_err-body_len.ensures.outcome (λ w y h. h)))

pub returns-clause-outcome : goal.returns-clause-outcome
returns-clause-outcome g c =
    answered (first_ (λ w. blob_of (directory_seen w.standing.shows w.standing.stands w.standing.path c.args.place.now w.standing.at w.folder)) c.in_ok-body_len.ensures.outcome (λ w y h. h))
    (λ w h. (h.0, ap (nat_lt 0) (h.1 ∙ size_at w.standing.shows w.standing.path w.standing.at.row w.standing.at.there (folder_is w.standing.tree w.standing.ids w.standing.path c.args.place.now w.standing.at w.folder)) ∙ has_child-size w.standing.tree w.standing.path))
