use Rattle.std.proofs.Common.{take, drop, ◌∙◌, ap}
use Rattle.path_walks.specs.store_outcome.Outcome.{first_}
use Rattle.fs_model.specs.declared.attr.Attr.{Attr}
use Rattle.fs_model.specs.Tree.{is_directory}
use Rattle.path_contents.proofs.Blobs.{blob_at, plain_body}
use Rattle.path_contents.proofs.places.bytes_at.Goals as goal

pub returns-clause-outcome : goal.returns-clause-outcome
returns-clause-outcome g c =
    first_ (λ w. blob_at w.standing.shows w.standing.path w.standing.at.row w.standing.at.there w.standing.stands c.args.place.now.blob.0 w.standing.at.blob) c.read_body.ensures.outcome
    (λ w y h. (h.0, h.1 ∙ ap (λ z. take c.args.count (drop c.args.from z)) (plain_body w.standing.shows w.standing.path w.standing.at.row w.standing.at.there (ap (λ (a : Attr). is_directory a.kind) w.standing.at.attr ∙ w.plain))))
