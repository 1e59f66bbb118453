use Rattle.std.proofs.Common.{◌≡◌, true, false, Ok, sym, ◌∙◌, ap}
use Rattle.std.specs.Cmp.{Equal-is}
use Rattle.std.proofs.lemmas.Result.{err_from_is_err_and}
use Rattle.path_walks.specs.store_outcome.Outcome.{Outcome, first_, then_, failed_, passed}
use Rattle.fs_model.specs.Tree.{name_cmp}
use Rattle.fs_model.proofs.TreeLemmas.{name_exact, name_same, same_name}
use Rattle.path_walks.specs.dir_entries.Layout.{entry_of}
use Rattle.path_rows.specs.Moves.{Moving}
use Rattle.path_rows.proofs.Relocated.{IsOnTheWay, looks1, looks2, has_name_in, gone, has_room_in, came, blob_moved, relocated, rested}
use Rattle.path_rows.proofs.InPlace.{has_both_in, stays}
use Rattle.path_rows.proofs.changes.relocate.Goals as goal

pub returns-in_err-remove_in : goal.returns-in_err-remove_in
returns-in_err-remove_in g c =
    let apart : c.args.from.now.dir.place.blob.0 ≡ c.args.to.now.dir.place.blob.0 → ⊥ = λ e.
    let bad : true ≡ false = sym (name_same c.args.to.now.dir.place.blob.0) ∙ (ap (λ z. same_name z c.args.to.now.dir.place.blob.0) (sym e) ∙ (sym c.is_same.ensures ∙ c.if-is_same.false)) in
    cc in
    let p = err_from_is_err_and c.from_residual.result c.from_residual.ensures.1 in
    rw (p.1, p.2) (passed (first_ (λ w. has_name_in w apart c.deref-2.result.now c.deref-2.ensures.value) c.in_err-remove_in.ensures.outcome (λ w y h. h)))

pub returns-in_err-insert_in : goal.returns-in_err-insert_in
returns-in_err-insert_in g c =
    let apart : c.args.from.now.dir.place.blob.0 ≡ c.args.to.now.dir.place.blob.0 → ⊥ = λ e.
    let bad : true ≡ false = sym (name_same c.args.to.now.dir.place.blob.0) ∙ (ap (λ z. same_name z c.args.to.now.dir.place.blob.0) (sym e) ∙ (sym c.is_same.ensures ∙ c.if-is_same.false)) in
    cc in
    let M = g.B.Blobs.meanings in
    let H = g.B.Blobs.holdings in
    let p = err_from_is_err_and c.from_residual-in_err-insert_in.result c.from_residual-in_err-insert_in.ensures.1 in
    let o1 : Outcome M (Moving H c.args.b.now c.args.from.now c.args.to.now.dir.place.blob.0 c.args.to.now.body.items (entry_of c.args.entry.now)) c.args.b.now c.remove_in.new.b (Ok tt) (λ w _. IsOnTheWay H c.remove_in.new.b w.tree w.ids (looks1 w)) =
    first_ (λ w. has_name_in w apart c.deref-2.result.now c.deref-2.ensures.value) c.in_ok-remove_in.ensures.outcome (λ w y h. gone w c.remove_in.new.b h) in
    rw (p.1, p.2) (failed_ g.met.B.Blobs.lawful o1 (λ w h. has_room_in w h apart c.deref-3.result.now c.deref-3.ensures.value) c.in_err-insert_in.ensures.outcome)

pub returns-then-is_same : goal.returns-then-is_same
returns-then-is_same g c =
    let same = name_exact _ _ ((Equal-is (name_cmp c.args.from.now.dir.place.blob.0 c.args.to.now.dir.place.blob.0)).0 (sym c.is_same.ensures ∙ c.if-is_same.true)) in
    first_ (λ w. has_both_in w same c.deref.result.now c.deref.ensures.value) c.rename.ensures.outcome (λ w y h. rested w (stays w same c.rename.new.b h) same)

pub returns : goal.returns
returns g c =
    let apart : c.args.from.now.dir.place.blob.0 ≡ c.args.to.now.dir.place.blob.0 → ⊥ = λ e.
    let bad : true ≡ false = sym (name_same c.args.to.now.dir.place.blob.0) ∙ (ap (λ z. same_name z c.args.to.now.dir.place.blob.0) (sym e) ∙ (sym c.is_same.ensures ∙ c.if-is_same.false)) in
    cc in
    let M = g.B.Blobs.meanings in
    let H = g.B.Blobs.holdings in
    let o1 : Outcome M (Moving H c.args.b.now c.args.from.now c.args.to.now.dir.place.blob.0 c.args.to.now.body.items (entry_of c.args.entry.now)) c.args.b.now c.remove_in.new.b (Ok tt) (λ w _. IsOnTheWay H c.remove_in.new.b w.tree w.ids (looks1 w)) =
    first_ (λ w. has_name_in w apart c.deref-2.result.now c.deref-2.ensures.value) c.in_ok-remove_in.ensures.outcome (λ w y h. gone w c.remove_in.new.b h) in
    let o2 : Outcome M (Moving H c.args.b.now c.args.from.now c.args.to.now.dir.place.blob.0 c.args.to.now.body.items (entry_of c.args.entry.now)) c.args.b.now c.insert_in.new.b (Ok tt) (λ w _. IsOnTheWay H c.insert_in.new.b w.tree w.ids (looks2 w)) =
    then_ g.met.B.Blobs.lawful o1 (λ w h. has_room_in w h apart c.deref-3.result.now c.deref-3.ensures.value) c.in_ok-insert_in.ensures.outcome (λ w h y k. came w h c.insert_in.new.b k) in
    then_ g.met.B.Blobs.lawful o2 (λ w h. blob_moved w h) c.set_parent.ensures (λ w h y k. relocated w h c.set_parent.new.b k)
