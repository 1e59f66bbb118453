use Rattle.std.proofs.Common.{◌≤◌, true, false, length, refl, sym, ◌∙◌, ap, subst}
use Rattle.block_id.specs.declared.id.BlockId.{BlockId}
use Rattle.std.proofs.lemmas.Result.{err_from_is_err_and}
use Rattle.path_walks.specs.store_outcome.Outcome.{then_, passed, answered, idle}
use Rattle.block_id.specs.Contents as bytes
use Rattle.fs_model.specs.declared.attr.Attr.{Attr}
use Rattle.fs_model.specs.declared.attr.Kind.TheVariants.{File}
use Rattle.fs_model.specs.declared.limits.TheConstants.{MAX_MODE}
use Rattle.fs_model.specs.declared.reply.Reply.TheVariants.{Done, Error}
use Rattle.path_walks.proofs.Told.{stays, told_as, made}
use Rattle.path_walks.proofs.Found.{q, is_kind}
use Rattle.path_contents.proofs.Found.{setting_by, set_done}
use Rattle.path_walks.proofs.Touching.{stamped}
use Rattle.path_contents.proofs.Ends.{ends_found}
use Rattle.path_contents.proofs.Steps.{cut_by, unless_long}
use Rattle.path_contents.proofs.content.truncate_found.Goals as goal

pub resize_at-requires-clause-mode : goal.resize_at-requires-clause-mode
resize_at-requires-clause-mode g c = subst (λ (a : Attr). a.mode ≤ MAX_MODE) (sym c.in_ok-entry.ensures.attr) c.requires.mode

pub resize_at-requires-clause-file : goal.resize_at-requires-clause-file
resize_at-requires-clause-file g c = ap (λ (a : Attr). a.kind) c.in_ok-entry.ensures.attr ∙ c.in-None.ensures

pub returns-in-Some-clause-outcome : goal.returns-in-Some-clause-outcome
returns-in-Some-clause-outcome g c =
    idle g.met.B.Blobs.lawful c.args.b.now (Error c.in-Some.refusal) c.requires.intact (λ w.
    stays w.map w.tree w.ids w.shows c.args.b.now w.stands _ _ (cut_by w.tree (q w) w.is.here.row c.args.now c.args.len c.args.at.now.place.attr.kind (is_kind w _ refl) ∙ c.in-Some.ensures w.tree _))

pub returns-in_err-is_end_too_far-clause-outcome : goal.returns-in_err-is_end_too_far-clause-outcome
returns-in_err-is_end_too_far-clause-outcome g c =
    let e = err_from_is_err_and c.from_residual.result c.from_residual.ensures.1 in
    rw (e.1, e.2) (passed (ends_found {at = c.args.at.now} c.args.len c.in-None.ensures c.in_err-is_end_too_far.ensures.outcome))

pub returns-then-branch-clause-outcome : goal.returns-then-branch-clause-outcome
returns-then-branch-clause-outcome g c =
    let len = c.args.len in
    answered (ends_found {at = c.args.at.now} len c.in-None.ensures c.in_ok-is_end_too_far.ensures.outcome)
    (λ w h.
    stays w.map w.tree w.ids w.shows c.is_end_too_far.new.b h.0 _ _
    (cut_by w.tree (q w) w.is.here.row c.args.now len File (is_kind w File c.in-None.ensures)
    ∙ unless_long w.tree (q w) w.is.here.row (length w.is.here.row.bytes) len _ true (sym h.1 ∙ c.if-branch.true)))

pub returns-clause-outcome : goal.returns-clause-outcome
returns-clause-outcome g c =
    let now = c.args.now in
    let len = c.args.len in
    made c.done.ensures.is (then_ g.met.B.Blobs.lawful (ends_found {at = c.args.at.now} len c.in-None.ensures c.in_ok-is_end_too_far.ensures.outcome) (λ w h. setting_by w c.is_end_too_far.new.b h.0 c.in_ok-entry.entry.name (sym c.in_ok-entry.ensures.name) c.in_ok-entry.entry.attr (ap (λ (a : Attr). a.kind) (sym c.in_ok-entry.ensures.attr)) (subst (λ (a : Attr). a.mode ≤ MAX_MODE) (sym c.in_ok-entry.ensures.attr) c.requires.mode)
    c.in_ok-entry.entry.blob.0 (ap (λ (z : BlockId). z.0) (sym c.in_ok-entry.ensures.blob))) c.resize_at.ensures
    (λ w h y r.
    let row = w.is.here.row in
    told_as _ _ Done
    (cut_by w.tree (q w) row now len File (is_kind w File c.in-None.ensures) ∙ unless_long w.tree (q w) row (length row.bytes) len _ false (sym h.1 ∙ c.if-branch.false))
    (set_done w c.in_ok-entry.entry.name (sym c.in_ok-entry.ensures.name) c.in_ok-entry.entry.attr (stamped now row.attr) (c.in_ok-entry.ensures.attr ∙ ap (stamped now) (sym w.is.here.attr)) (bytes.resized row.bytes len) c.resize_at.new.b r)))
    (λ w y h. h)
