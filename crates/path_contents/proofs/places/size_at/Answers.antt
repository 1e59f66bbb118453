use Rattle.std.proofs.Common.{length, ◌∙◌, ap}
use Rattle.path_walks.specs.store_outcome.Outcome.{first_, idle}
use Rattle.fs_model.specs.declared.attr.Attr.{Attr}
use Rattle.fs_model.specs.Tree.{is_directory}
use Rattle.path_contents.proofs.Blobs.{blob_at, plain_body, folder_bytes}
use Rattle.path_contents.proofs.places.size_at.Goals as goal

pub returns-in-Directory-clause-outcome : goal.returns-in-Directory-clause-outcome
returns-in-Directory-clause-outcome g c =
    idle g.met.B.Blobs.lawful c.args.b.now 0 c.requires (λ w. (w.stands, folder_bytes w.shows w.path w.at.row w.at.there (ap (λ (a : Attr). a.kind) w.at.attr ∙ c.in-Directory.is)))

pub returns-in-File-clause-outcome : goal.returns-in-File-clause-outcome
returns-in-File-clause-outcome g c =
    first_ (λ w. blob_at w.shows w.path w.at.row w.at.there w.stands c.args.place.now.blob.0 w.at.blob) c.body_len.ensures.outcome
    (λ w y h. (h.0, h.1 ∙ ap length (plain_body w.shows w.path w.at.row w.at.there (ap (λ (a : Attr). is_directory a.kind) w.at.attr ∙ ap is_directory c.in-File.is))))

pub returns-in-Link-clause-outcome : goal.returns-in-Link-clause-outcome
returns-in-Link-clause-outcome g c =
    first_ (λ w. blob_at w.shows w.path w.at.row w.at.there w.stands c.args.place.now.blob.0 w.at.blob) c.body_len-in-Link.ensures.outcome
    (λ w y h. (h.0, h.1 ∙ ap length (plain_body w.shows w.path w.at.row w.at.there (ap (λ (a : Attr). is_directory a.kind) w.at.attr ∙ ap is_directory c.in-Link.is))))
