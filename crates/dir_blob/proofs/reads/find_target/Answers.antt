use Rattle.std.proofs.lemmas.Result.{err_from_is_err_and}
use Rattle.fs_blobs.specs.store_outcome.Outcome.{passed, answered}
use Rattle.dir_blob.proofs.reads.find_target.Goals as goal

pub returns-in_err-find_in-clause-outcome : goal.returns-in_err-find_in-clause-outcome
returns-in_err-find_in-clause-outcome g c =
    let p = err_from_is_err_and c.from_residual.result c.from_residual.ensures.1 in
    rw (p.1, p.2) (passed c.in_err-find_in.ensures.outcome)

pub returns-clause-outcome : goal.returns-clause-outcome
returns-clause-outcome g c = answered c.in_ok-find_in.ensures.outcome (λ n h. (h.0, h.1))
