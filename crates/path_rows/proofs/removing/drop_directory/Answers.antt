use Rattle.std.proofs.Common.{◌≡◌, Ok, true, false, cond, sym, ◌∙◌, ap}
use Rattle.std.proofs.lemmas.Result.{err_from_is_err_and}
use Rattle.path_walks.specs.store_outcome.Outcome.{Outcome, first_, then_, failed_, passed, answered, idle}
use Rattle.fs_model.specs.declared.error.FsError.TheVariants.{NotDirectory, NotEmpty}
use Rattle.fs_model.specs.declared.reply.Reply.TheVariants.{Done, Error}
use Rattle.fs_model.specs.Tree.{is_directory}
use Rattle.fs_model.specs.Step as model
use Rattle.path_walks.specs.Showing.{IsShownBy}
use Rattle.path_walks.specs.Sights.{Finding}
use Rattle.path_walks.proofs.Told.{stays, told_as, made}
use Rattle.path_walks.proofs.Found.{q, is_folder_by}
use Rattle.path_rows.proofs.Found.{folder, dropping, childless, rest, touching, removed}
use Rattle.path_rows.proofs.Steps.{without, folder_by, folder_refused}
use Rattle.path_rows.proofs.removing.drop_directory.Goals as goal

pub returns-in_err-has_child-in-Directory-clause-outcome : goal.returns-in_err-has_child-in-Directory-clause-outcome
returns-in_err-has_child-in-Directory-clause-outcome g c =
    let e = err_from_is_err_and c.from_residual.result c.from_residual.ensures.1 in
    rw (e.1, e.2) (passed (first_ (λ w. folder w c.in-Directory.is) c.in_err-has_child-in-Directory.ensures.outcome (λ w y h. h)))

pub returns-then-branch-clause-outcome : goal.returns-then-branch-clause-outcome
returns-then-branch-clause-outcome g c =
    answered (first_ (λ w. folder w c.in-Directory.is) c.in_ok-has_child-in-Directory.ensures.outcome (λ w y h. h))
    (λ w h.
    stays w.map w.tree w.ids w.shows c.has_child.new.b h.0 _ _
    (folder_by w.tree c.args.now (q w) w.is.here.row (is_folder_by w true (ap is_directory c.in-Directory.is))
    ∙ ap (λ b. cond b (model.refused w.tree NotEmpty) (model.done (without w.tree c.args.now (q w) w.is.here.row))) (sym h.1 ∙ c.if-branch.true)))

pub returns-in_err-drop_at-in-Directory-clause-outcome : goal.returns-in_err-drop_at-in-Directory-clause-outcome
returns-in_err-drop_at-in-Directory-clause-outcome g c =
    let H = g.B.Blobs.holdings in
    let e = err_from_is_err_and c.from_residual-in_err-drop_at-in-Directory.result c.from_residual-in_err-drop_at-in-Directory.ensures.1 in
    let o : Outcome g.B.Blobs.meanings (Finding H c.args.b.now c.args.at.now) c.args.b.now c.has_child.new.b (Ok c.in_ok-has_child-in-Directory.field-0)
    (λ w y. H.stands_for c.has_child.new.b w.map × (model.has_child w.tree (q w) ≡ false)) =
    answered (first_ (λ w. folder w c.in-Directory.is) c.in_ok-has_child-in-Directory.ensures.outcome (λ w y h. h)) (λ w h. (h.0, sym h.1 ∙ c.if-branch.false)) in
    rw (e.1, e.2) (failed_ g.met.B.Blobs.lawful o (λ w h. dropping w c.has_child.new.b h.0 (childless w.tree (q w) h.1)) c.in_err-drop_at-in-Directory.ensures)

pub returns-in_ok-drop_at-in-Directory-clause-outcome : goal.returns-in_ok-drop_at-in-Directory-clause-outcome
returns-in_ok-drop_at-in-Directory-clause-outcome g c =
    let M = g.B.Blobs.meanings in
    let H = g.B.Blobs.holdings in
    let o : Outcome M (Finding H c.args.b.now c.args.at.now) c.args.b.now c.has_child.new.b (Ok c.in_ok-has_child-in-Directory.field-0)
    (λ w y. H.stands_for c.has_child.new.b w.map × (model.has_child w.tree (q w) ≡ false)) =
    answered (first_ (λ w. folder w c.in-Directory.is) c.in_ok-has_child-in-Directory.ensures.outcome (λ w y h. h)) (λ w h. (h.0, sym h.1 ∙ c.if-branch.false)) in
    let o2 : Outcome M (Finding H c.args.b.now c.args.at.now) c.args.b.now c.drop_at.new.b (Ok tt)
    (λ w y. IsShownBy H c.drop_at.new.b w.root (rest w) w.ids × (model.has_child w.tree (q w) ≡ false)) =
    then_ g.met.B.Blobs.lawful o (λ w h. dropping w c.has_child.new.b h.0 (childless w.tree (q w) h.1)) c.in_ok-drop_at-in-Directory.ensures (λ w h y k. (k, h.1)) in
    made c.done.ensures.is (then_ g.met.B.Blobs.lawful o2 (λ w h. touching w c.drop_at.new.b h.0) c.touch.ensures
    (λ w h y k. told_as _ _ Done
    (folder_by w.tree c.args.now (q w) w.is.here.row (is_folder_by w true (ap is_directory c.in-Directory.is))
    ∙ ap (λ b. cond b (model.refused w.tree NotEmpty) (model.done (without w.tree c.args.now (q w) w.is.here.row))) h.1)
    (removed w c.args.now c.touch.new.b k)))
    (λ w y h. h)

pub returns-in-File-clause-outcome : goal.returns-in-File-clause-outcome
returns-in-File-clause-outcome g c =
    idle g.met.B.Blobs.lawful c.args.b.now (Error NotDirectory) c.requires.intact (λ w.
    stays w.map w.tree w.ids w.shows c.args.b.now w.stands _ _ (folder_refused w.tree c.args.now (q w) w.is.here.row (is_folder_by w false (ap is_directory c.in-File.is))))

pub returns-in-Link-clause-outcome : goal.returns-in-Link-clause-outcome
returns-in-Link-clause-outcome g c =
    idle g.met.B.Blobs.lawful c.args.b.now (Error NotDirectory) c.requires.intact (λ w.
    stays w.map w.tree w.ids w.shows c.args.b.now w.stands _ _ (folder_refused w.tree c.args.now (q w) w.is.here.row (is_folder_by w false (ap is_directory c.in-Link.is))))
