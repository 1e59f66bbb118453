use Rattle.std.proofs.Common.{sym, ◌∙◌}
use Rattle.std.proofs.lemmas.Result.{err_from_is_err_and}
use Rattle.dir_blob.specs.store_outcome.Outcome.{first_, then_, passed, answered}
use Rattle.path_walks.proofs.Touching.{first, one, second}
use Rattle.path_walks.proofs.touches.touch_both.Goals as goal

pub returns-in_err-touch : goal.returns-in_err-touch
returns-in_err-touch g c =
    let p = err_from_is_err_and c.from_residual.result c.from_residual.ensures.1 in
    rw (p.1, p.2) (passed (first_ (λ w. first w c.args.now) c.in_err-touch.ensures (λ w y h. h)))

pub returns-then-is_same : goal.returns-then-is_same
returns-then-is_same g c =
    answered (first_ (λ w. first w c.args.now) c.in_ok-touch.ensures (λ w y h. h)) (λ w h. one w c.args.now c.touch.new.b (sym c.is_same.ensures ∙ c.if-is_same.true) h)

pub returns : goal.returns
returns g c =
    then_ g.met.B.Blobs.lawful (first_ (λ w. first w c.args.now) c.in_ok-touch.ensures (λ w y h. h))
    (λ w h. second w c.args.now c.touch.new.b (sym c.is_same.ensures ∙ c.if-is_same.false) h) c.touch-2.ensures
    (λ w h y k. k)
