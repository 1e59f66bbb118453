use Rattle.std.proofs.Common.{Ok, sym, subst}
use Rattle.std.specs.FinMap.{put}
use Rattle.std.proofs.lemmas.Result.{err_from_is_err_and}
use Rattle.path_walks.specs.store_outcome.Outcome.{Outcome, first_, then_, failed_, passed, answered}
use Rattle.path_walks.specs.blob_api.BlobMap.{IsNew}
use Rattle.fs_model.specs.Tree.{Row, name_cmp}
use Rattle.path_walks.specs.fs_blobs.Headers.{blob}
use Rattle.path_walks.specs.dir_blob.Directories.{HasEntries}
use Rattle.path_walks.specs.Shows.{above}
use Rattle.path_rows.specs.Changes.{Adding}
use Rattle.path_rows.proofs.NewRow.{directory, map1, has_room_in, added}
use Rattle.path_rows.proofs.made.add_row.Goals as goal

pub returns-in_err-blob : goal.returns-in_err-blob
returns-in_err-blob g c =
    let p = err_from_is_err_and c.from_residual-in_err-blob.result c.from_residual-in_err-blob.ensures.1 in
    rw (p.1, p.2) (passed (first_ (λ w. record { map = w.making.map; stands = w.making.stands }) c.in_err-blob.ensures (λ w y h. h)))

pub returns-in_err-insert_in : goal.returns-in_err-insert_in
returns-in_err-insert_in g c =
    let M = g.B.Blobs.meanings in
    let H = g.B.Blobs.holdings in
    let row : Row = record { attr = c.args.attr; bytes = c.args.bytes.now } in
    let p = err_from_is_err_and c.from_residual-in_err-insert_in.result c.from_residual-in_err-insert_in.ensures.1 in
    let o : Outcome M (Adding H c.args.b.now c.args.at.now.dir c.args.at.now.name.now c.args.at.now.body.items row) c.args.b.now c.new_blob.new.b (Ok c.in_ok-blob.blob)
    (λ w id. IsNew H c.new_blob.new.b w.making.map id.0 (blob row.attr.kind c.args.at.now.dir.place.blob.0 row.bytes)) =
    first_ (λ w. record { map = w.making.map; stands = w.making.stands }) c.in_ok-blob.ensures (λ w y h. h) in
    rw (p.1, p.2) (failed_ g.met.B.Blobs.lawful o (λ w h. has_room_in w.making w.room h c.deref.result.now c.deref.ensures.value c.in_ok-name.name (sym c.in_ok-name.ensures)) c.in_err-insert_in.ensures.outcome)

pub returns : goal.returns
returns g c =
    let M = g.B.Blobs.meanings in
    let H = g.B.Blobs.holdings in
    let row : Row = record { attr = c.args.attr; bytes = c.args.bytes.now } in
    let o : Outcome M (Adding H c.args.b.now c.args.at.now.dir c.args.at.now.name.now c.args.at.now.body.items row) c.args.b.now c.new_blob.new.b (Ok c.in_ok-blob.blob)
    (λ w id. IsNew H c.new_blob.new.b w.making.map id.0 (blob row.attr.kind c.args.at.now.dir.place.blob.0 row.bytes)) =
    first_ (λ w. record { map = w.making.map; stands = w.making.stands }) c.in_ok-blob.ensures (λ w y h. h) in
    answered (then_ g.met.B.Blobs.lawful o (λ w h. has_room_in w.making w.room h c.deref.result.now c.deref.ensures.value c.in_ok-name.name (sym c.in_ok-name.ensures)) c.in_ok-insert_in.ensures.outcome
    (λ w h y k. added w.making w.room h c.insert_in.new.b
    (subst (λ z. HasEntries H c.insert_in.new.b (map1 w.making w.room h) c.args.at.now.dir.place.blob.0 (above w.making.ids w.making.path) (put name_cmp z (record { attr = c.args.attr; blob = c.in_ok-blob.blob.0 }) (directory w.making).listing)) c.in_ok-name.ensures k)))
    (λ w h. h)
