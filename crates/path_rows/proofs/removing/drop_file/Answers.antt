use Rattle.std.proofs.Common.{true, false, sym, ◌∙◌}
use Rattle.std.proofs.lemmas.Result.{err_from_is_err_and}
use Rattle.path_walks.specs.store_outcome.Outcome.{first_, then_, idle, passed}
use Rattle.fs_model.specs.declared.error.FsError.TheVariants.{IsDirectory}
use Rattle.fs_model.specs.declared.reply.Reply.TheVariants.{Done, Error}
use Rattle.path_walks.proofs.Told.{stays, told_as, made}
use Rattle.path_walks.proofs.Found.{q, is_folder_by}
use Rattle.path_rows.proofs.Found.{dropping, bare_file, touching, removed}
use Rattle.path_rows.proofs.Steps.{file_by}
use Rattle.path_rows.proofs.removing.drop_file.Goals as goal

pub returns-then-is_directory-clause-outcome : goal.returns-then-is_directory-clause-outcome
returns-then-is_directory-clause-outcome g c =
    idle g.met.B.Blobs.lawful c.args.b.now (Error IsDirectory) c.requires.intact (λ w.
    stays w.map w.tree w.ids w.shows c.args.b.now w.stands _ _ (file_by w.tree c.args.now (q w) w.is.here.row true (is_folder_by w true (sym c.is_directory.ensures ∙ c.if-is_directory.true))))

pub returns-in_err-drop_at-clause-outcome : goal.returns-in_err-drop_at-clause-outcome
returns-in_err-drop_at-clause-outcome g c =
    let e = err_from_is_err_and c.from_residual.result c.from_residual.ensures.1 in
    rw (e.1, e.2) (passed (first_ (λ w. dropping w c.args.b.now w.stands (bare_file w (sym c.is_directory.ensures ∙ c.if-is_directory.false))) c.in_err-drop_at.ensures (λ w y h. h)))

pub returns-clause-outcome : goal.returns-clause-outcome
returns-clause-outcome g c =
    made c.done.ensures.is
    (then_ g.met.B.Blobs.lawful (first_ (λ w. dropping w c.args.b.now w.stands (bare_file w (sym c.is_directory.ensures ∙ c.if-is_directory.false))) c.in_ok-drop_at.ensures (λ w y h. h))
    (λ w h. touching w c.drop_at.new.b h) c.touch.ensures (λ w h y k. k))
    (λ w y h. told_as _ _ Done (file_by w.tree c.args.now (q w) w.is.here.row false (is_folder_by w false (sym c.is_directory.ensures ∙ c.if-is_directory.false))) (removed w c.args.now c.touch.new.b h))
