-- What an insertion into a body that was read comes to.
use Rattle.std.proofs.Common.{◌≡◌, ℕ, List, ◌-◌, ◌++◌, length, take, drop, sym, ◌∙◌, ap, arith}
use Rattle.std.specs.Prelude.{is_some, true, false}
use Rattle.fs_blobs.specs.store_outcome.Outcome.{first_, idle, unbuilt}
use Rattle.dir_entries.specs.Layout.{EntryTarget, IsBody, entry_of, entry_text}
use Rattle.dir_entries.proofs.Edits.{entry_length}
use Rattle.dir_entries.proofs.Found.{absent_is}
use Rattle.dir_blob.specs.Directories.{HasRoomIn}
use Rattle.dir_blob.proofs.Needs.{blob_of, slice_rest, inserted_entries, when_ok}
use Rattle.dir_blob.proofs.changes.insert_in.Goals as goal
use Rattle.dir_blob.proofs.changes.insert_in.Goals.{then-is_some-via-then-is_some, then-is_some-via-else-is_some+then-body-len-gt-MAX_ENTRIES}

pub returns-then-is_some-clause-outcome : goal.returns-then-is_some-clause-outcome
returns-then-is_some-clause-outcome g c =
    let text = c.in_ok-put_entry.ensures.text ∙ ap (λ z. z ++ entry_text (entry_of c.args.entry.now)) c.new-bytes.ensures.items in
    let long = entry_length (entry_of c.args.entry.now) c.in_ok-put_entry.ensures.types in
    unbuilt g.met.B.Blobs.lawful (idle g.met.B.Blobs.lawful {T = List ℕ} {N = HasRoomIn g.B.Blobs.holdings c.args.b.now c.args.dir.now.0 c.args.body.now c.args.entry.now.name} {P = λ _ _. Unit {0}} c.args.b.now c.args.body.now c.requires.intact (λ _. tt))
    (λ (n : HasRoomIn g.B.Blobs.holdings c.args.b.now c.args.dir.now.0 c.args.body.now c.args.entry.now.name) h.
    let body : IsBody c.args.body.now n.room.is.listing = record { entries = n.room.is.entries; text = n.text } in
    let place = c.in-Some.ensures.place n.room.is.listing body in
    let there : is_some c.in-Some.place.found ≡ false = absent_is c.in-Some.place.found (sym place.finds ∙ n.room.absent) in
    elim c.then-is_some.branch [
      | then-is_some-via-then-is_some w ↦ let bad : true ≡ false = sym w.if-is_some.true ∙ (c.is_some.ensures ∙ there) in cc
      | then-is_some-via-else-is_some+then-body-len-gt-MAX_ENTRIES w ↦ omega (arith, n.room.room, ap length text, ap length n.text, long, w.if-body-len-gt-MAX_ENTRIES.true)
    ])

pub returns-clause-outcome : goal.returns-clause-outcome
returns-clause-outcome g c =
    let name = c.args.entry.now.name in
    let target : EntryTarget = (entry_of c.args.entry.now).1 in
    let front = c.in-Some.place.front in
    let back = c.in-Some.place.back in
    let old = c.args.body.now in
    let text = c.in_ok-put_entry.ensures.text ∙ ap (λ z. z ++ entry_text (entry_of c.args.entry.now)) c.new-bytes.ensures.items in
    first_ (λ (n : HasRoomIn g.B.Blobs.holdings c.args.b.now c.args.dir.now.0 old name). blob_of n.room.is) c.write_body.ensures.outcome (λ n y k.
    let body : IsBody old n.room.is.listing = record { entries = n.room.is.entries; text = n.text } in
    inserted_entries name n.room front c.in-Some.place.found (drop back old) (c.in-Some.ensures.place n.room.is.listing body) target c.deref.result.now c.in_ok-put_entry.ensures.types
    (c.deref.ensures.value ∙ (c.in_ok-extend_from_slice.ensures.items ∙ (ap (λ z. z ++ take (length old - back) (drop back old)) text
    ∙ ap (λ z. entry_text (name, target) ++ z) (slice_rest old back))))
    k)

pub returns-clause-room : goal.returns-clause-room
returns-clause-room g c =
    let text = c.in_ok-put_entry.ensures.text ∙ ap (λ z. z ++ entry_text (entry_of c.args.entry.now)) c.new-bytes.ensures.items in
    let long = entry_length (entry_of c.args.entry.now) c.in_ok-put_entry.ensures.types in
    when_ok c.write_body.result (omega (arith, ap length text, long, c.if-body-len-gt-MAX_ENTRIES.false))
