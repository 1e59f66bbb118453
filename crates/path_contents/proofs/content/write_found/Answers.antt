use Rattle.std.proofs.Common.{◌≤◌, ◌+◌, true, false, length, max, refl, sym, ◌∙◌, ap, subst, arith}
use Rattle.std.specs.FinMap.{insert}
use Rattle.block_id.specs.declared.id.BlockId.{BlockId}
use Rattle.std.proofs.lemmas.Result.{err_from_is_err_and}
use Rattle.path_walks.specs.store_outcome.Outcome.{then_, passed, answered, idle}
use Rattle.block_id.specs.Contents as bytes
use Rattle.fs_model.specs.declared.attr.Attr.{Attr}
use Rattle.fs_model.specs.declared.attr.Kind.TheVariants.{File}
use Rattle.fs_model.specs.declared.limits.TheConstants.{MAX_MODE}
use Rattle.fs_model.specs.declared.reply.Reply.TheVariants.{Done, Error}
use Rattle.fs_model.specs.Step as model
use Rattle.path_walks.proofs.Told.{stays, told_as, made}
use Rattle.path_contents.proofs.Blobs.{blob_at, file_fits}
use Rattle.path_walks.proofs.Found.{q, is_kind}
use Rattle.path_contents.proofs.Found.{setting_by, set_done}
use Rattle.path_contents.proofs.Ends.{ends_found, write_ends, write_fits}
use Rattle.path_contents.proofs.Files.{written_some}
use Rattle.path_walks.proofs.Touching.{stamped}
use Rattle.path_contents.proofs.Steps.{write_by, write_empty, unless_long}
use Rattle.path_contents.proofs.Spared.{unspent, onward}
use Rattle.path_contents.proofs.content.write_found.Goals as goal

pub write_at-requires-clause-mode : goal.write_at-requires-clause-mode
write_at-requires-clause-mode g c = subst (λ (a : Attr). a.mode ≤ MAX_MODE) (sym c.in_ok-entry.ensures.attr) c.requires.mode

pub write_at-requires-clause-file : goal.write_at-requires-clause-file
write_at-requires-clause-file g c = ap (λ (a : Attr). a.kind) c.in_ok-entry.ensures.attr ∙ c.in-None.ensures

pub write_at-requires-clause-fits : goal.write_at-requires-clause-fits
write_at-requires-clause-fits g c = write_fits c.args.from (length c.args.bytes.now) c.saturating_add-end.result c.saturating_add-end.ensures (c.in_ok-is_end_too_far.ensures.fits c.if-branch.false)

pub returns-in-Some-clause-outcome : goal.returns-in-Some-clause-outcome
returns-in-Some-clause-outcome g c =
    idle g.met.B.Blobs.lawful c.args.b.now (Error c.in-Some.refusal) c.requires.intact (λ w.
    stays w.map w.tree w.ids w.shows c.args.b.now w.stands _ _
    (write_by w.tree (q w) w.is.here.row c.args.now c.args.from c.args.bytes.now c.args.at.now.place.attr.kind (is_kind w _ refl) ∙ c.in-Some.ensures w.tree _))

pub returns-in-Some-clause-sparing : goal.returns-in-Some-clause-sparing
returns-in-Some-clause-sparing g c = λ w s f. unspent g.B.Blobs.holdings c.args.b.now c.args.b.now _ _ _ _ refl

pub returns-then-is_empty-clause-outcome : goal.returns-then-is_empty-clause-outcome
returns-then-is_empty-clause-outcome g c =
    idle g.met.B.Blobs.lawful c.args.b.now Done c.requires.intact (λ w.
    stays w.map w.tree w.ids w.shows c.args.b.now w.stands _ _
    (write_by w.tree (q w) w.is.here.row c.args.now c.args.from c.args.bytes.now File (is_kind w File c.in-None.ensures)
    ∙ write_empty w.tree (q w) w.is.here.row c.args.now c.args.from c.args.bytes.now true (sym c.is_empty.ensures ∙ c.if-is_empty.true)))

pub returns-then-is_empty-clause-sparing : goal.returns-then-is_empty-clause-sparing
returns-then-is_empty-clause-sparing g c = λ w s f. unspent g.B.Blobs.holdings c.args.b.now c.args.b.now _ _ _ _ refl

pub returns-in_err-is_end_too_far-clause-outcome : goal.returns-in_err-is_end_too_far-clause-outcome
returns-in_err-is_end_too_far-clause-outcome g c =
    let e = err_from_is_err_and c.from_residual.result c.from_residual.ensures.1 in
    rw (e.1, e.2) (passed (ends_found {at = c.args.at.now} c.saturating_add-end.result c.in-None.ensures c.in_err-is_end_too_far.ensures.outcome))

pub returns-in_err-is_end_too_far-clause-sparing : goal.returns-in_err-is_end_too_far-clause-sparing
returns-in_err-is_end_too_far-clause-sparing g c = λ w s f. unspent g.B.Blobs.holdings c.args.b.now c.is_end_too_far.new.b _ _ _ _ c.is_end_too_far.ensures.unchanged

pub returns-then-branch-clause-outcome : goal.returns-then-branch-clause-outcome
returns-then-branch-clause-outcome g c =
    let now = c.args.now in
    let from = c.args.from in
    let new = c.args.bytes.now in
    let end = c.saturating_add-end.result in
    answered (ends_found {at = c.args.at.now} end c.in-None.ensures c.in_ok-is_end_too_far.ensures.outcome)
    (λ w h.
    let old = w.is.here.row.bytes in
    let fits = file_fits w.shows (q w) w.is.here.row w.is.here.there (is_kind w File c.in-None.ensures) in
    stays w.map w.tree w.ids w.shows c.is_end_too_far.new.b h.0 _ _
    (write_by w.tree (q w) w.is.here.row now from new File (is_kind w File c.in-None.ensures)
    ∙ (write_empty w.tree (q w) w.is.here.row now from new false (sym c.is_empty.ensures ∙ c.if-is_empty.false)
    ∙ unless_long w.tree (q w) w.is.here.row (length old) (max (length old) (from + length new)) _ true
    (write_ends (length old) from (length new) end fits c.saturating_add-end.ensures ∙ (sym h.1 ∙ c.if-branch.true)))))

pub returns-then-branch-clause-sparing : goal.returns-then-branch-clause-sparing
returns-then-branch-clause-sparing g c = λ w s f. unspent g.B.Blobs.holdings c.args.b.now c.is_end_too_far.new.b _ _ _ _ c.is_end_too_far.ensures.unchanged

pub returns-in_err-entry-clause-sparing : goal.returns-in_err-entry-clause-sparing
returns-in_err-entry-clause-sparing g c = λ w s f. unspent g.B.Blobs.holdings c.args.b.now c.is_end_too_far.new.b _ _ _ _ c.is_end_too_far.ensures.unchanged

pub returns-clause-outcome : goal.returns-clause-outcome
returns-clause-outcome g c =
    let now = c.args.now in
    let from = c.args.from in
    let new = c.args.bytes.now in
    let end = c.saturating_add-end.result in
    made c.done.ensures.is (then_ g.met.B.Blobs.lawful (ends_found {at = c.args.at.now} end c.in-None.ensures c.in_ok-is_end_too_far.ensures.outcome) (λ w h. setting_by w c.is_end_too_far.new.b h.0 c.in_ok-entry.entry.name (sym c.in_ok-entry.ensures.name) c.in_ok-entry.entry.attr (ap (λ (a : Attr). a.kind) (sym c.in_ok-entry.ensures.attr)) (subst (λ (a : Attr). a.mode ≤ MAX_MODE) (sym c.in_ok-entry.ensures.attr) c.requires.mode)
    c.in_ok-entry.entry.blob.0 (ap (λ (z : BlockId). z.0) (sym c.in_ok-entry.ensures.blob))) c.write_at.ensures.outcome
    (λ w h y r.
    let row = w.is.here.row in
    let fits = file_fits w.shows (q w) row w.is.here.there (is_kind w File c.in-None.ensures) in
    told_as _ _ Done
    (write_by w.tree (q w) row now from new File (is_kind w File c.in-None.ensures)
    ∙ (write_empty w.tree (q w) row now from new false (sym c.is_empty.ensures ∙ c.if-is_empty.false)
    ∙ (unless_long w.tree (q w) row (length row.bytes) (max (length row.bytes) (from + length new)) _ false
    (write_ends (length row.bytes) from (length new) end fits c.saturating_add-end.ensures ∙ (sym h.1 ∙ c.if-branch.false))
    ∙ ap (λ z. model.done (insert w.tree (q w) (model.with_content row now z))) (sym (written_some row.bytes from new (sym c.is_empty.ensures ∙ c.if-is_empty.false))))))
    (set_done w c.in_ok-entry.entry.name (sym c.in_ok-entry.ensures.name) c.in_ok-entry.entry.attr (stamped now row.attr) (c.in_ok-entry.ensures.attr ∙ ap (stamped now) (sym w.is.here.attr)) (bytes.written row.bytes from new) c.write_at.new.b r)))
    (λ w y h. h)

pub returns-clause-sparing : goal.returns-clause-sparing
returns-clause-sparing g c = λ w s f.
    let M = g.B.Blobs.meanings in
    let laws = g.met.B.Blobs.lawful in
    let look = c.in_ok-is_end_too_far.ensures in
    let early = laws.forgeries_grow c.args.b.now c.is_end_too_far.new.b look.outcome.loaded in
    let late = laws.forgeries_grow c.is_end_too_far.new.b c.write_at.new.b c.write_at.ensures.outcome.loaded in
    let one : M.forgeries c.is_end_too_far.new.b ≤ M.forgeries c.args.b.now = omega (arith, early, late, f) in
    let two : M.forgeries c.write_at.new.b ≤ M.forgeries c.is_end_too_far.new.b = omega (arith, early, late, f) in
    let h = look.outcome.value (blob_at w.shows (q w) w.is.here.row w.is.here.there w.stands c.args.at.now.place.blob.0 w.is.here.blob) s one in
    onward g.met.B.Blobs.steady c.args.b.now c.is_end_too_far.new.b c.write_at.new.b look.outcome.loaded look.unchanged _ _ _ _ _ _ refl refl
    (c.write_at.ensures.sparing (setting_by w c.is_end_too_far.new.b h.0 c.in_ok-entry.entry.name (sym c.in_ok-entry.ensures.name) c.in_ok-entry.entry.attr (ap (λ (a : Attr). a.kind) (sym c.in_ok-entry.ensures.attr)) (subst (λ (a : Attr). a.mode ≤ MAX_MODE) (sym c.in_ok-entry.ensures.attr) c.requires.mode)
    c.in_ok-entry.entry.blob.0 (ap (λ (z : BlockId). z.0) (sym c.in_ok-entry.ensures.blob))) (look.outcome.sound s one) two)
