use Rattle.std.proofs.Common.{◌∙◌}
use Rattle.std.proofs.lemmas.Option.{same_Some}
use Rattle.std.proofs.lemmas.Result.{err_from_is_err_and}
use Rattle.fs_blobs.specs.store_outcome.Outcome.{passed, answered, no_memory}
use Rattle.dir_entries.specs.Layout.{IsBody}
use Rattle.dir_blob.proofs.reads.entries.Goals as goal

pub returns-in_err-body-clause-outcome : goal.returns-in_err-body-clause-outcome
returns-in_err-body-clause-outcome g c =
    let p = err_from_is_err_and c.from_residual.result c.from_residual.ensures.1 in
    rw (p.1, p.2) (passed c.in_err-body.ensures.outcome)

pub returns-in_err-entries-clause-outcome : goal.returns-in_err-entries-clause-outcome
returns-in_err-entries-clause-outcome g c =
    let p = err_from_is_err_and c.from_residual-in_err-entries.result c.from_residual-in_err-entries.ensures.1 in
    rw (p.1, p.2) (no_memory c.in_ok-body.ensures.outcome)

pub returns-in-Some-clause-outcome : goal.returns-in-Some-clause-outcome
returns-in-Some-clause-outcome g c =
    answered c.in_ok-body.ensures.outcome
    (λ n h.
    let body : IsBody c.deref.result.now n.listing = record { entries = n.entries; text = c.deref.ensures.value ∙ h.1 } in
    (h.0, same_Some _ _ (rw c.in-Some.is at (c.in_ok-entries.ensures.only n.listing body))))
