-- What another name comes to.
use Rattle.std.proofs.Common.{ℕ, List, refl}
use Rattle.fs_blobs.specs.store_outcome.Outcome.{first_, idle, unbuilt}
use Rattle.dir_entries.specs.Layout.{IsBody, entry_of}
use Rattle.dir_entries.specs.Renaming.{IsEdit, renamed}
use Rattle.dir_blob.specs.Directories.{HasBothIn}
use Rattle.dir_blob.proofs.Renamed.{edit_room, edit_entries}
use Rattle.dir_blob.proofs.renames.rename.Goals as goal

pub returns-in-Some-clause-outcome : goal.returns-in-Some-clause-outcome
returns-in-Some-clause-outcome g c =
    let edit = c.in-Some.edit in
    let body = c.args.body.now in
    let edit_of : (n : HasBothIn g.B.Blobs.holdings c.args.b.now c.args.dir.now.0 body c.args.name.now (entry_of c.args.entry.now)) → IsEdit body edit (renamed c.args.name.now (entry_of c.args.entry.now) n.both.is.listing) =
    λ n.
    let is : IsBody body n.both.is.listing = record { entries = n.both.is.entries; text = n.text } in
    rw c.in-Some.is at (c.in_ok-edit.ensures.edits n.both.is.listing n.both.target is n.both.present n.both.absent) in
    first_ (λ n. record { is = n.both.is; text = n.text; room = edit_room n.both edit body body (edit_of n) refl }) c.splice.ensures
    (λ n y k. edit_entries n.both edit body body (edit_of n) refl c.splice.new.b k)

pub returns-in-None-clause-outcome : goal.returns-in-None-clause-outcome
returns-in-None-clause-outcome g c =
    let body = c.args.body.now in
    unbuilt g.met.B.Blobs.lawful (idle g.met.B.Blobs.lawful {T = List ℕ} {N = HasBothIn g.B.Blobs.holdings c.args.b.now c.args.dir.now.0 body c.args.name.now (entry_of c.args.entry.now)} {P = λ _ _. Unit {0}} c.args.b.now body c.requires.intact (λ _. tt))
    (λ n h.
    let is : IsBody body n.both.is.listing = record { entries = n.both.is.entries; text = n.text } in
    rw c.in-None.is at (c.in_ok-edit.ensures.edits n.both.is.listing n.both.target is n.both.present n.both.absent))
