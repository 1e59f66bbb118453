use Rattle.std.proofs.Common.{◌≡◌, Ok, refl, sym, ◌∙◌, ap, subst}
use Rattle.std.proofs.lemmas.Result.{err_from_is_err_and}
use Rattle.path_walks.specs.store_outcome.Outcome.{Outcome, then_, failed_, answered, passed}
use Rattle.fs_model.specs.declared.attr.Attr.{Attr}
use Rattle.fs_model.specs.declared.attr.Kind.TheVariants.{Directory, File, Link}
use Rattle.fs_model.specs.declared.reply.Reply.TheVariants.{Target}
use Rattle.fs_model.specs.Tree.{upward, is_directory}
use Rattle.fs_model.specs.LookUp.{look}
use Rattle.fs_model.specs.Step as model
use Rattle.fs_model.proofs.LookUpLemmas.{look-found}
use Rattle.path_walks.specs.Showing.{BlobsShow, Performed}
use Rattle.path_walks.proofs.Steps.{wrong_here}
use Rattle.path_walks.proofs.Told.{stays}
use Rattle.path_contents.proofs.Seen.{here, wrong_steps, holding}
use Rattle.path_contents.proofs.Blobs.{whole_target}
use Rattle.path_contents.proofs.Steps.{target_by}
use Rattle.path_contents.proofs.reading.read_link.Goals as goal

pub returns-in_err-bytes-in-Link-clause-outcome : goal.returns-in_err-bytes-in-Link-clause-outcome
returns-in_err-bytes-in-Link-clause-outcome g c =
    let p = upward c.args.names.now in
    let e = err_from_is_err_and c.from_residual.result c.from_residual.ensures.1 in
    rw (e.1, e.2) (failed_ g.met.B.Blobs.lawful c.in-Ok-Here.ensures.outcome
    (λ n h. holding n c.walk.new.b h.0 p c.in-Ok-Here.place (here n.tree n.ids p c.in-Ok-Here.field-0 h.1 c.in-Ok-Here.place c.in-Ok-Here.field-0-is) (ap is_directory c.in-Link.is)) c.in_err-bytes-in-Link.ensures.outcome)

pub returns-in-Directory-clause-outcome : goal.returns-in-Directory-clause-outcome
returns-in-Directory-clause-outcome g c =
    let p = upward c.args.names.now in
    answered c.in-Ok-Here.ensures.outcome (λ n h.
    let at = here n.tree n.ids p c.in-Ok-Here.field-0 h.1 c.in-Ok-Here.place c.in-Ok-Here.field-0-is in
    stays n.map n.tree n.ids n.shows c.walk.new.b h.0 _ _ (target_by n.tree p at.row (look-found n.tree p at.row at.there) Directory (ap (λ (a : Attr). a.kind) at.attr ∙ c.in-Directory.is)))

pub returns-in-File-clause-outcome : goal.returns-in-File-clause-outcome
returns-in-File-clause-outcome g c =
    let p = upward c.args.names.now in
    answered c.in-Ok-Here.ensures.outcome (λ n h.
    let at = here n.tree n.ids p c.in-Ok-Here.field-0 h.1 c.in-Ok-Here.place c.in-Ok-Here.field-0-is in
    stays n.map n.tree n.ids n.shows c.walk.new.b h.0 _ _ (target_by n.tree p at.row (look-found n.tree p at.row at.there) File (ap (λ (a : Attr). a.kind) at.attr ∙ c.in-File.is)))

pub returns-in_ok-bytes-in-Link-clause-outcome : goal.returns-in_ok-bytes-in-Link-clause-outcome
returns-in_ok-bytes-in-Link-clause-outcome g c =
    let p = upward c.args.names.now in
    let place = c.in-Ok-Here.place in
    let o : Outcome g.B.Blobs.meanings (BlobsShow g.B.Blobs.holdings c.args.b.now c.args.root.now.0) c.args.b.now c.bytes_at.new.b (Ok c.in_ok-bytes-in-Link.bytes)
    (λ n y. Performed g.B.Blobs.holdings c.bytes_at.new.b c.args.root.now.0 (model.target_read n.tree (look n.tree p)) (Target y.items)) =
    then_ g.met.B.Blobs.lawful c.in-Ok-Here.ensures.outcome
    (λ n h. holding n c.walk.new.b h.0 p place (here n.tree n.ids p c.in-Ok-Here.field-0 h.1 place c.in-Ok-Here.field-0-is) (ap is_directory c.in-Link.is)) c.in_ok-bytes-in-Link.ensures.outcome
    (λ n h y k.
    let at = here n.tree n.ids p c.in-Ok-Here.field-0 h.1 place c.in-Ok-Here.field-0-is in
    let kind : at.row.attr.kind ≡ Link = ap (λ (a : Attr). a.kind) at.attr ∙ c.in-Link.is in
    stays n.map n.tree n.ids n.shows c.bytes_at.new.b k.0 _ _
    (target_by n.tree p at.row (look-found n.tree p at.row at.there) Link kind
    ∙ ap (λ z. model.answered n.tree (Target z)) (sym (k.1 ∙ whole_target n.shows p at.row at.there kind)))) in
    answered o (λ n h. subst (λ z. Performed g.B.Blobs.holdings c.bytes_at.new.b c.args.root.now.0 (model.target_read n.tree (look n.tree p)) (Target z)) (sym c.new.ensures) h)

pub returns-in-Ok-Wrong-clause-outcome : goal.returns-in-Ok-Wrong-clause-outcome
returns-in-Ok-Wrong-clause-outcome g c =
    let p = upward c.args.names.now in
    answered c.in-Ok-Wrong.ensures.outcome (λ n h.
    stays n.map n.tree n.ids n.shows c.walk.new.b h.0 _ _
    (wrong_steps n.tree n.shows.well_formed.rooted p c.in-Ok-Wrong.error (wrong_here n.tree n.ids p c.in-Ok-Wrong.field-0 h.1 c.in-Ok-Wrong.error c.in-Ok-Wrong.field-0-is) (model.target_read n.tree) refl (λ x. refl)))

pub returns-in-Err-clause-outcome : goal.returns-in-Err-clause-outcome
returns-in-Err-clause-outcome g c = passed c.in-Err.ensures.outcome
