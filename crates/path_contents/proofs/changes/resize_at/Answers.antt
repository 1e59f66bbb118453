use Rattle.std.proofs.lemmas.Result.{err_from_is_err_and}
use Rattle.path_walks.specs.store_outcome.Outcome.{first_, then_, passed}
use Rattle.path_contents.proofs.Setting.{file_blob, has_name_in_then, content_set, resized_few}
use Rattle.path_contents.proofs.changes.resize_at.Goals as goal

pub returns-in_err-resize_body : goal.returns-in_err-resize_body
returns-in_err-resize_body g c =
    let p = err_from_is_err_and c.from_residual.result c.from_residual.ensures.1 in
    rw (p.1, p.2) (passed (first_ (λ w. file_blob w.setting c.requires.file) c.in_err-resize_body.ensures (λ w y h. h)))

pub returns : goal.returns
returns g c =
    then_ g.met.B.Blobs.lawful (first_ (λ w. file_blob w.setting c.requires.file) c.in_ok-resize_body.ensures (λ w y h. h))
    (λ w h. has_name_in_then w c.requires.file _ (resized_few w.setting c.requires.file c.args.len c.requires.fits) c.resize_body.new.b h c.deref.result.now c.deref.ensures.value) c.change_in.ensures.outcome
    (λ w h y k. content_set w.setting c.requires.file _ (resized_few w.setting c.requires.file c.args.len c.requires.fits) c.change_in.new.b k)
