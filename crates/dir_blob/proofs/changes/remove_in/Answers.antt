-- What a removal from a body that was read comes to.
use Rattle.std.proofs.Common.{◌+◌, ◌-◌, ℕ, List, length, take, drop, refl, ap, arith}
use Rattle.std.proofs.lemmas.Result.{err_from_is_err_and}
use Rattle.std.proofs.lemmas.List.{length-drop}
use Rattle.fs_blobs.specs.store_outcome.Outcome.{first_, then_, passed, idle, unbuilt}
use Rattle.dir_blob.specs.Directories.{HasNameIn}
use Rattle.dir_blob.proofs.Needs.{blob_of, slice_rest, blob_written, removed_entries, when_ok, read_body, read_fits}
use Rattle.dir_blob.proofs.changes.remove_in.Goals as goal

pub returns-in_err-write_body-clause-outcome : goal.returns-in_err-write_body-clause-outcome
returns-in_err-write_body-clause-outcome g c =
    let p = err_from_is_err_and c.from_residual.result c.from_residual.ensures.1 in
    rw (p.1, p.2) (passed (first_ {R = λ _ _. Unit {0}} (λ n. blob_of n.named.is) c.in_err-write_body.ensures.outcome (λ _ _ _. tt)))

pub returns-clause-outcome : goal.returns-clause-outcome
returns-clause-outcome g c =
    let name = c.args.name.now in
    let body = c.args.body.now in
    let front = c.in-Some.place.front in
    let bytes = take (length body - c.in-Some.place.back) (drop c.in-Some.place.back body) in
    let rest = slice_rest body c.in-Some.place.back in
    let within = c.in-Some.ensures.within in
    then_ g.met.B.Blobs.lawful (first_ (λ (n : HasNameIn g.B.Blobs.holdings c.args.b.now c.args.dir.now.0 body name). blob_of n.named.is) c.in_ok-write_body.ensures.outcome (λ n y h. h))
    (λ n h. blob_written n.named.is front bytes (omega (arith, within.0, within.1, ap length n.text, length-drop c.in-Some.place.back body, ap length rest)) h)
    c.resize_body.ensures
    (λ n h y k. removed_entries name n.named front _ (c.in-Some.ensures.place n.named.is.listing n.named.target (read_body n) n.named.present (read_fits n)) c.resize_body.new.b bytes (front + length bytes) rest refl k)

pub returns-in_default-clause-outcome : goal.returns-in_default-clause-outcome
returns-in_default-clause-outcome g c =
    unbuilt g.met.B.Blobs.lawful (idle g.met.B.Blobs.lawful {T = List ℕ} {N = HasNameIn g.B.Blobs.holdings c.args.b.now c.args.dir.now.0 c.args.body.now c.args.name.now} {P = λ _ _. Unit {0}} c.args.b.now c.args.body.now c.requires (λ _. tt))
    (λ n h. rw c.in_default.is at (c.held_at.ensures.place n.named.is.listing n.named.target (read_body n) n.named.present (read_fits n)))

pub returns-clause-present : goal.returns-clause-present
returns-clause-present g c = λ listing is. when_ok c.resize_body.result (c.in-Some.ensures.present listing is)
