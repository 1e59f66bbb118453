use Rattle.std.proofs.Common.{arith}
use Rattle.std.proofs.lemmas.Result.{err_from_is_err_and}
use Rattle.blob_api.specs.store_outcome.Outcome.{first_, passed, answered, unbuilt}
use Rattle.fs_blobs.proofs.Parts.{has_bytes, length-blob}
use Rattle.fs_blobs.proofs.body.body_len.Goals as goal

pub returns-in_err-len-clause-outcome : goal.returns-in_err-len-clause-outcome
returns-in_err-len-clause-outcome g c =
    let p = err_from_is_err_and c.from_residual.result c.from_residual.ensures.1 in
    rw (p.1, p.2) (passed (first_ (λ n. has_bytes n) c.in_err-len.ensures.outcome (λ n y h. h)))

pub returns-then-len-lt-BODY_PLACE-clause-outcome : goal.returns-then-len-lt-BODY_PLACE-clause-outcome
returns-then-len-lt-BODY_PLACE-clause-outcome g c =
    unbuilt g.met.B.Blobs.lawful (first_ (λ n. has_bytes n) c.in_ok-len.ensures.outcome (λ n y h. h))
    (λ n h. omega (arith, h.1, length-blob n.kind n.parent n.body n.wide, c.if-len-lt-BODY_PLACE.true))

pub returns-clause-outcome : goal.returns-clause-outcome
returns-clause-outcome g c =
    answered (first_ (λ n. has_bytes n) c.in_ok-len.ensures.outcome (λ n y h. h))
    (λ n h. (h.0, omega (arith, h.1, length-blob n.kind n.parent n.body n.wide)))
