use Rattle.std.proofs.Common.{length, ◌∙◌, ap, arith}
use Rattle.std.proofs.lemmas.Result.{err_from_is_err_and}
use Rattle.fs_blobs.specs.store_outcome.Outcome.{first_, passed, answered, unbuilt}
use Rattle.dir_entries.specs.Layout.{body_of}
use Rattle.dir_blob.proofs.Needs.{blob_of, whole}
use Rattle.dir_blob.proofs.reads.whole_body.Goals as goal

pub returns-in_err-bytes-clause-outcome : goal.returns-in_err-bytes-clause-outcome
returns-in_err-bytes-clause-outcome g c =
    let p = err_from_is_err_and c.from_residual.result c.from_residual.ensures.1 in
    rw (p.1, p.2) (passed (first_ (λ n. blob_of n) c.in_err-bytes.ensures.outcome (λ n y h. h)))

pub returns-then-len-gt-MAX_BODY-clause-outcome : goal.returns-then-len-gt-MAX_BODY-clause-outcome
returns-then-len-gt-MAX_BODY-clause-outcome g c =
    unbuilt g.met.B.Blobs.lawful (first_ (λ n. blob_of n) c.in_ok-bytes.ensures.outcome (λ n y h. h))
    (λ n h. let same = ap length (h.1 ∙ whole (body_of n.listing) n.fits) in omega (arith, same, n.fits, c.if-len-gt-MAX_BODY.true))

pub returns-clause-outcome : goal.returns-clause-outcome
returns-clause-outcome g c =
    answered (first_ (λ n. blob_of n) c.in_ok-bytes.ensures.outcome (λ n y h. h))
    (λ n h. (h.0, h.1 ∙ whole (body_of n.listing) n.fits))
