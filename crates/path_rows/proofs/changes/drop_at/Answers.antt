use Rattle.std.proofs.lemmas.Result.{err_from_is_err_and}
use Rattle.path_walks.specs.store_outcome.Outcome.{first_, then_, passed}
use Rattle.path_rows.proofs.Dropped.{has_name_in, has_blob, dropped}
use Rattle.path_rows.proofs.changes.drop_at.Goals as goal

pub returns-in_err-remove_in : goal.returns-in_err-remove_in
returns-in_err-remove_in g c =
    let p = err_from_is_err_and c.from_residual.result c.from_residual.ensures.1 in
    rw (p.1, p.2) (passed (first_ (λ w. has_name_in w c.deref.result.now c.deref.ensures.value) c.in_err-remove_in.ensures.outcome (λ w y h. h)))

pub returns : goal.returns
returns g c =
    then_ g.met.B.Blobs.lawful (first_ (λ w. has_name_in w c.deref.result.now c.deref.ensures.value) c.in_ok-remove_in.ensures.outcome (λ w y h. h)) (λ w h. has_blob w c.remove_in.new.b h) c.remove.ensures
    (λ w h y k. dropped w c.remove_in.new.b c.remove.new.self h k)
