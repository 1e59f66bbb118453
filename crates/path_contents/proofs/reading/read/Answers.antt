use Rattle.std.proofs.Common.{Ok, cond, take, drop, refl, sym, ◌∙◌, ap, subst}
use Rattle.std.proofs.lemmas.Bool.{lt-ltb, le-ltb}
use Rattle.std.proofs.lemmas.Result.{err_from_is_err_and}
use Rattle.path_walks.specs.store_outcome.Outcome.{Outcome, then_, failed_, answered, passed}
use Rattle.fs_model.specs.declared.attr.Attr.{Attr}
use Rattle.fs_model.specs.declared.attr.Kind.TheVariants.{File}
use Rattle.fs_model.specs.declared.error.FsError.TheVariants.{TooLarge}
use Rattle.fs_model.specs.declared.limits.TheConstants.{MAX_READ}
use Rattle.fs_model.specs.declared.reply.Reply.TheVariants.{Content}
use Rattle.fs_model.specs.Tree.{upward, is_directory}
use Rattle.fs_model.specs.LookUp.{look}
use Rattle.fs_model.specs.Step as model
use Rattle.fs_model.proofs.LookUpLemmas.{look-found}
use Rattle.path_walks.specs.Showing.{BlobsShow, Performed}
use Rattle.path_walks.proofs.Steps.{wrong_here}
use Rattle.path_walks.proofs.Told.{stays}
use Rattle.path_contents.proofs.Seen.{here, wrong_steps, holding}
use Rattle.path_contents.proofs.Steps.{content_by}
use Rattle.path_contents.proofs.reading.read.Goals as goal

pub returns-in_err-bytes-in-None-clause-outcome : goal.returns-in_err-bytes-in-None-clause-outcome
returns-in_err-bytes-in-None-clause-outcome g c =
    let p = upward c.args.names.now in
    let e = err_from_is_err_and c.from_residual.result c.from_residual.ensures.1 in
    rw (e.1, e.2) (failed_ g.met.B.Blobs.lawful c.in-Ok-Here.ensures.outcome
    (λ n h. holding n c.walk.new.b h.0 p c.in-Ok-Here.place (here n.tree n.ids p c.in-Ok-Here.field-0 h.1 c.in-Ok-Here.place c.in-Ok-Here.field-0-is) (ap is_directory c.in-None.ensures)) c.in_err-bytes-in-None.ensures.outcome)

pub returns-in-Some-clause-outcome : goal.returns-in-Some-clause-outcome
returns-in-Some-clause-outcome g c =
    let p = upward c.args.names.now in
    answered c.in-Ok-Here.ensures.outcome (λ n h.
    let at = here n.tree n.ids p c.in-Ok-Here.field-0 h.1 c.in-Ok-Here.place c.in-Ok-Here.field-0-is in
    stays n.map n.tree n.ids n.shows c.walk.new.b h.0 _ _
    (content_by n.tree p at.row (look-found n.tree p at.row at.there) c.args.from c.args.count c.in-Ok-Here.place.attr.kind (ap (λ (a : Attr). a.kind) at.attr) ∙ c.in-Some.ensures n.tree _))

pub returns-then-count-gt-MAX_READ-clause-outcome : goal.returns-then-count-gt-MAX_READ-clause-outcome
returns-then-count-gt-MAX_READ-clause-outcome g c =
    let p = upward c.args.names.now in
    answered c.in-Ok-Here.ensures.outcome (λ n h.
    let at = here n.tree n.ids p c.in-Ok-Here.field-0 h.1 c.in-Ok-Here.place c.in-Ok-Here.field-0-is in
    stays n.map n.tree n.ids n.shows c.walk.new.b h.0 _ _
    (content_by n.tree p at.row (look-found n.tree p at.row at.there) c.args.from c.args.count File (ap (λ (a : Attr). a.kind) at.attr ∙ c.in-None.ensures)
    ∙ ap (λ z. cond z (model.refused n.tree TooLarge) (model.answered n.tree (Content (take c.args.count (drop c.args.from at.row.bytes))))) (lt-ltb MAX_READ c.args.count c.if-count-gt-MAX_READ.true)))

pub returns-in_ok-bytes-in-None-clause-outcome : goal.returns-in_ok-bytes-in-None-clause-outcome
returns-in_ok-bytes-in-None-clause-outcome g c =
    let p = upward c.args.names.now in
    let place = c.in-Ok-Here.place in
    let o : Outcome g.B.Blobs.meanings (BlobsShow g.B.Blobs.holdings c.args.b.now c.args.root.now.0) c.args.b.now c.bytes_at.new.b (Ok c.in_ok-bytes-in-None.bytes)
    (λ n y. Performed g.B.Blobs.holdings c.bytes_at.new.b c.args.root.now.0 (model.content_read n.tree c.args.from c.args.count (look n.tree p)) (Content y.items)) =
    then_ g.met.B.Blobs.lawful c.in-Ok-Here.ensures.outcome
    (λ n h. holding n c.walk.new.b h.0 p place (here n.tree n.ids p c.in-Ok-Here.field-0 h.1 place c.in-Ok-Here.field-0-is) (ap is_directory c.in-None.ensures)) c.in_ok-bytes-in-None.ensures.outcome
    (λ n h y k.
    let at = here n.tree n.ids p c.in-Ok-Here.field-0 h.1 place c.in-Ok-Here.field-0-is in
    stays n.map n.tree n.ids n.shows c.bytes_at.new.b k.0 _ _
    (content_by n.tree p at.row (look-found n.tree p at.row at.there) c.args.from c.args.count File (ap (λ (a : Attr). a.kind) at.attr ∙ c.in-None.ensures)
    ∙ (ap (λ z. cond z (model.refused n.tree TooLarge) (model.answered n.tree (Content (take c.args.count (drop c.args.from at.row.bytes))))) (le-ltb MAX_READ c.args.count c.if-count-gt-MAX_READ.false)
    ∙ ap (λ z. model.answered n.tree (Content z)) (sym k.1)))) in
    answered o (λ n h. subst (λ z. Performed g.B.Blobs.holdings c.bytes_at.new.b c.args.root.now.0 (model.content_read n.tree c.args.from c.args.count (look n.tree p)) (Content z)) (sym c.new.ensures) h)

pub returns-in-Ok-Wrong-clause-outcome : goal.returns-in-Ok-Wrong-clause-outcome
returns-in-Ok-Wrong-clause-outcome g c =
    let p = upward c.args.names.now in
    answered c.in-Ok-Wrong.ensures.outcome (λ n h.
    stays n.map n.tree n.ids n.shows c.walk.new.b h.0 _ _
    (wrong_steps n.tree n.shows.well_formed.rooted p c.in-Ok-Wrong.error (wrong_here n.tree n.ids p c.in-Ok-Wrong.field-0 h.1 c.in-Ok-Wrong.error c.in-Ok-Wrong.field-0-is) (model.content_read n.tree c.args.from c.args.count) refl (λ x. refl)))

pub returns-in-Err-clause-outcome : goal.returns-in-Err-clause-outcome
returns-in-Err-clause-outcome g c = passed c.in-Err.ensures.outcome
