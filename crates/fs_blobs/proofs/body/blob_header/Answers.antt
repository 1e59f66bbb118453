use Rattle.std.proofs.Common.{sym, ◌∙◌, subst}
use Rattle.std.proofs.lemmas.Result.{err_from_is_err_and}
use Rattle.blob_api.specs.store_outcome.Outcome.{first_, passed, answered, unbuilt}
use Rattle.fs_blobs.specs.Headers.{BeginsWith}
use Rattle.fs_blobs.proofs.Parts.{has_bytes, header_alone}
use Rattle.fs_blobs.proofs.body.blob_header.Goals as goal

pub returns-in_err-bytes-clause-outcome : goal.returns-in_err-bytes-clause-outcome
returns-in_err-bytes-clause-outcome g c =
    let p = err_from_is_err_and c.from_residual.result c.from_residual.ensures.1 in
    rw (p.1, p.2) (passed (first_ (λ n. has_bytes n) c.in_err-bytes.ensures.outcome (λ n y h. h)))

pub returns-in-Some-clause-outcome : goal.returns-in-Some-clause-outcome
returns-in-Some-clause-outcome g c =
    answered (first_ (λ n. has_bytes n) c.in_ok-bytes.ensures.outcome (λ n y h. h))
    (λ n h.
    let read = c.in-Some.ensures.only n.kind n.parent (subst (λ z. BeginsWith z n.kind n.parent) (sym (c.deref.ensures.value ∙ h.1)) (header_alone n.kind n.parent n.body n.wide)) in
    (h.0, read.0, read.1))

pub returns-clause-outcome : goal.returns-clause-outcome
returns-clause-outcome g c =
    unbuilt g.met.B.Blobs.lawful (first_ (λ n. has_bytes n) c.in_ok-bytes.ensures.outcome (λ n y h. h))
    (λ n h. c.in-None.ensures.only n.kind n.parent (subst (λ z. BeginsWith z n.kind n.parent) (sym (c.deref.ensures.value ∙ h.1)) (header_alone n.kind n.parent n.body n.wide)))
