use Rattle.std.proofs.Common.{Ok, length, refl, sym, ◌∙◌, ap}
use Rattle.std.proofs.lemmas.Result.{err_from_is_err_and}
use Rattle.path_walks.specs.store_outcome.Outcome.{Outcome, then_, failed_, answered, passed}
use Rattle.fs_model.specs.declared.reply.Reply.TheVariants.{Info}
use Rattle.fs_model.specs.Tree.{upward}
use Rattle.fs_model.specs.LookUp.{look}
use Rattle.fs_model.specs.Step as model
use Rattle.fs_model.proofs.LookUpLemmas.{look-found}
use Rattle.path_walks.specs.Showing.{BlobsShow, Performed}
use Rattle.path_walks.proofs.Steps.{wrong_here}
use Rattle.path_walks.proofs.Told.{stays}
use Rattle.path_contents.proofs.Seen.{here, wrong_steps, standing}
use Rattle.path_contents.proofs.Steps.{told_by}
use Rattle.path_contents.proofs.reading.stat.Goals as goal

pub returns-in_err-size-in-Ok-Here-clause-outcome : goal.returns-in_err-size-in-Ok-Here-clause-outcome
returns-in_err-size-in-Ok-Here-clause-outcome g c =
    let p = upward c.args.names.now in
    let e = err_from_is_err_and c.from_residual.result c.from_residual.ensures.1 in
    rw (e.1, e.2) (failed_ g.met.B.Blobs.lawful c.in-Ok-Here.ensures.outcome
    (λ n h. standing n c.walk.new.b h.0 p c.in-Ok-Here.place (here n.tree n.ids p c.in-Ok-Here.field-0 h.1 c.in-Ok-Here.place c.in-Ok-Here.field-0-is)) c.in_err-size-in-Ok-Here.ensures.outcome)

pub returns-in_ok-size-in-Ok-Here-clause-outcome : goal.returns-in_ok-size-in-Ok-Here-clause-outcome
returns-in_ok-size-in-Ok-Here-clause-outcome g c =
    let p = upward c.args.names.now in
    let place = c.in-Ok-Here.place in
    let o : Outcome g.B.Blobs.meanings (BlobsShow g.B.Blobs.holdings c.args.b.now c.args.root.now.0) c.args.b.now c.size_at.new.b (Ok c.in_ok-size-in-Ok-Here.size)
    (λ n y. Performed g.B.Blobs.holdings c.size_at.new.b c.args.root.now.0 (model.told n.tree (look n.tree p)) (Info place.attr y)) =
    then_ g.met.B.Blobs.lawful c.in-Ok-Here.ensures.outcome
    (λ n h. standing n c.walk.new.b h.0 p place (here n.tree n.ids p c.in-Ok-Here.field-0 h.1 place c.in-Ok-Here.field-0-is)) c.in_ok-size-in-Ok-Here.ensures.outcome
    (λ n h y k.
    let at = here n.tree n.ids p c.in-Ok-Here.field-0 h.1 place c.in-Ok-Here.field-0-is in
    stays n.map n.tree n.ids n.shows c.size_at.new.b k.0 _ _
    (told_by n.tree p at.row (look-found n.tree p at.row at.there)
    ∙ (ap (λ a. model.answered n.tree (Info a (length at.row.bytes))) at.attr ∙ ap (λ z. model.answered n.tree (Info place.attr z)) (sym k.1)))) in
    answered o (λ n h. h)

pub returns-in-Ok-Wrong-clause-outcome : goal.returns-in-Ok-Wrong-clause-outcome
returns-in-Ok-Wrong-clause-outcome g c =
    let p = upward c.args.names.now in
    answered c.in-Ok-Wrong.ensures.outcome (λ n h.
    stays n.map n.tree n.ids n.shows c.walk.new.b h.0 _ _
    (wrong_steps n.tree n.shows.well_formed.rooted p c.in-Ok-Wrong.error (wrong_here n.tree n.ids p c.in-Ok-Wrong.field-0 h.1 c.in-Ok-Wrong.error c.in-Ok-Wrong.field-0-is) (model.told n.tree) refl (λ x. refl)))

pub returns-in-Err-clause-outcome : goal.returns-in-Err-clause-outcome
returns-in-Err-clause-outcome g c = passed c.in-Err.ensures.outcome
