-- What a removal comes to.
use Rattle.std.proofs.Common.{◌∙◌, arith}
use Rattle.std.proofs.lemmas.Result.{err_from_is_err_and}
use Rattle.fs_blobs.specs.store_outcome.Outcome.{first_, then_, passed}
use Rattle.dir_blob.proofs.Needs.{directory_still}
use Rattle.dir_blob.proofs.changes.remove.Goals as goal

pub returns-in_err-body-clause-outcome : goal.returns-in_err-body-clause-outcome
returns-in_err-body-clause-outcome g c =
    let p = err_from_is_err_and c.from_residual.result c.from_residual.ensures.1 in
    rw (p.1, p.2) (passed (first_ {R = λ _ _. Unit {0}} (λ n. n.is) c.in_err-body.ensures.outcome (λ _ _ _. tt)))

pub returns-clause-outcome : goal.returns-clause-outcome
returns-clause-outcome g c =
    then_ g.met.B.Blobs.lawful (first_ (λ n. n.is) c.in_ok-body.ensures.outcome (λ n y h. h))
    (λ n h. record { named = record { is = directory_still n.is h.0; target = n.target; present = n.present }; text = c.deref.ensures.value ∙ h.1 })
    c.remove_in.ensures.outcome (λ n h y k. k)

pub returns-clause-present : goal.returns-clause-present
returns-clause-present g c = λ n sound unforged.
    let after = g.met.B.Blobs.lawful.forgeries_grow c.whole_body.new.b c.remove_in.new.b c.remove_in.ensures.outcome.loaded in
    let read = c.in_ok-body.ensures.outcome.value n sound (omega (arith, after, unforged)) in
    c.remove_in.ensures.present n.listing (record { entries = n.entries; text = c.deref.ensures.value ∙ read.1 })
