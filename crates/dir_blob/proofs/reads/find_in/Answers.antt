use Rattle.std.proofs.Common.{◌∙◌}
use Rattle.std.proofs.lemmas.Result.{err_from_is_err_and}
use Rattle.fs_blobs.specs.store_outcome.Outcome.{passed, answered, unbuilt}
use Rattle.dir_entries.specs.Layout.{IsBody}
use Rattle.dir_blob.proofs.reads.find_in.Goals as goal

pub returns-in_err-body-clause-outcome : goal.returns-in_err-body-clause-outcome
returns-in_err-body-clause-outcome g c =
    let p = err_from_is_err_and c.from_residual.result c.from_residual.ensures.1 in
    rw (p.1, p.2) (passed c.in_err-body.ensures.outcome)

pub returns-in-Some-clause-outcome : goal.returns-in-Some-clause-outcome
returns-in-Some-clause-outcome g c =
    answered c.in_ok-body.ensures.outcome
    (λ n h.
    let body : IsBody c.deref.result.now n.listing = record { entries = n.entries; text = c.deref.ensures.value ∙ h.1 } in
    let place = c.in-Some.ensures.place n.listing body in
    (h.0, place.finds, h.1))

pub returns-in-None-clause-outcome : goal.returns-in-None-clause-outcome
returns-in-None-clause-outcome g c =
    unbuilt g.met.B.Blobs.lawful c.in_ok-body.ensures.outcome
    (λ n h.
    let body : IsBody c.deref.result.now n.listing = record { entries = n.entries; text = c.deref.ensures.value ∙ h.1 } in
    c.in-None.ensures.place n.listing body)
