-- What a change of an entry in a body that was read comes to.
use Rattle.std.proofs.Common.{ℕ, List, length, ◌++◌, ◌∙◌, ap, arith}
use Rattle.fs_blobs.specs.store_outcome.Outcome.{first_, idle, unbuilt}
use Rattle.dir_entries.specs.Layout.{EntryTarget, entry_of, entry_text}
use Rattle.dir_entries.proofs.Edits.{entry_length}
use Rattle.dir_blob.specs.Directories.{HasNameIn}
use Rattle.dir_blob.proofs.Needs.{blob_of, change_fits, changed_entries, when_ok, sparing_within, read_body, read_fits}
use Rattle.dir_blob.proofs.changes.change_in.Goals as goal

pub returns-in_default-clause-outcome : goal.returns-in_default-clause-outcome
returns-in_default-clause-outcome g c =
    unbuilt g.met.B.Blobs.lawful (idle g.met.B.Blobs.lawful {T = List ℕ} {N = HasNameIn g.B.Blobs.holdings c.args.b.now c.args.dir.now.0 c.args.body.now c.args.entry.now.name} {P = λ _ _. Unit {0}} c.args.b.now c.args.body.now c.requires.intact (λ _. tt))
    (λ n h. rw c.in_default.is at (c.held_at.ensures.place n.named.is.listing n.named.target (read_body n) n.named.present (read_fits n)))

pub returns-then-place-len-clause-outcome : goal.returns-then-place-len-clause-outcome
returns-then-place-len-clause-outcome g c =
    let name = c.args.entry.now.name in
    let target : EntryTarget = (entry_of c.args.entry.now).1 in
    let text = c.in_ok-put_entry.ensures.text ∙ ap (λ z. z ++ entry_text (entry_of c.args.entry.now)) c.new-bytes.ensures.items in
    unbuilt g.met.B.Blobs.lawful (idle g.met.B.Blobs.lawful {T = List ℕ} {N = HasNameIn g.B.Blobs.holdings c.args.b.now c.args.dir.now.0 c.args.body.now name} {P = λ _ _. Unit {0}} c.args.b.now c.args.body.now c.requires.intact (λ _. tt))
    (λ n h.
    let fits = change_fits name n.named c.in-Some.place.front _ (c.in-Some.ensures.place n.named.is.listing n.named.target (read_body n) n.named.present (read_fits n)) target c.in_ok-put_entry.ensures.types in
    omega (arith, fits, ap length text, ap length n.text, c.if-place-len.true))

pub returns-clause-outcome : goal.returns-clause-outcome
returns-clause-outcome g c =
    let name = c.args.entry.now.name in
    let target : EntryTarget = (entry_of c.args.entry.now).1 in
    let text = c.in_ok-put_entry.ensures.text ∙ ap (λ z. z ++ entry_text (entry_of c.args.entry.now)) c.new-bytes.ensures.items in
    first_ (λ (n : HasNameIn g.B.Blobs.holdings c.args.b.now c.args.dir.now.0 c.args.body.now name). blob_of n.named.is) c.write_body.ensures.outcome
    (λ n y k.
    changed_entries name n.named c.in-Some.place.front _ (c.in-Some.ensures.place n.named.is.listing n.named.target (read_body n) n.named.present (read_fits n)) c.write_body.new.b target c.deref.result.now c.in_ok-put_entry.ensures.types (c.deref.ensures.value ∙ text) k)

pub returns-clause-present : goal.returns-clause-present
returns-clause-present g c = λ listing is. when_ok c.write_body.result (c.in-Some.ensures.present listing is)

pub returns-clause-sparing : goal.returns-clause-sparing
returns-clause-sparing g c = λ n sound unforged.
    let text = c.in_ok-put_entry.ensures.text ∙ ap (λ z. z ++ entry_text (entry_of c.args.entry.now)) c.new-bytes.ensures.items in
    let long = entry_length (entry_of c.args.entry.now) c.in_ok-put_entry.ensures.types in
    sparing_within g.met.B.Blobs.steady c.args.b.now c.write_body.new.b (length c.args.body.now) c.in-Some.place.front (length c.deref.result.now) c.requires.intact
    (omega (arith, ap length c.deref.ensures.value, ap length text, long)) (omega (arith, ap length c.deref.ensures.value, c.if-place-len.false))
    (λ l told least most. c.write_body.ensures.sparing (blob_of n.is) sound unforged l told least (omega (arith, most, ap length n.text)))
