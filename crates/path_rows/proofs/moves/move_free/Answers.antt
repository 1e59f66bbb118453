use Rattle.std.proofs.Common.{◌≡◌, ◌≤◌, length, Ok, refl, sym, ◌∙◌, ap, subst, arith, cond}
use Rattle.std.proofs.lemmas.Result.{err_from_is_err_and}
use Rattle.path_walks.specs.store_outcome.Outcome.{Outcome, first_, then_, idle, passed}
use Rattle.fs_model.specs.declared.limits.TheConstants.{MAX_ENTRIES}
use Rattle.fs_model.specs.Names.{IsName}
use Rattle.fs_model.specs.Tree.{directory_size, entry_size}
use Rattle.fs_model.proofs.TreeLemmas.{same_name}
use Rattle.fs_model.specs.declared.error.FsError.TheVariants.{TooLarge}
use Rattle.fs_model.specs.declared.reply.Reply.TheVariants.{Error}
use Rattle.path_walks.specs.Showing.{IsShownBy}
use Rattle.path_walks.proofs.Told.{made}
use Rattle.path_rows.specs.Moves.{Heading}
use Rattle.path_rows.proofs.Heading.{next, body_size, size_next, too_large, moving, ids_next, shown_as, touching, moved_done}
use Rattle.path_rows.proofs.moves.move_free.Goals as goal
use Rattle.path_rows.proofs.moves.move_free.Goals.{then-is_same, else-is_same, then-size-gt-MAX_ENTRIES-via-then-size-gt-MAX_ENTRIES, then-size-gt-MAX_ENTRIES-via-else-size-gt-MAX_ENTRIES+then-size-as_slice}

pub returns-then-size-gt-MAX_ENTRIES-clause-did : goal.returns-then-size-gt-MAX_ENTRIES-clause-did
returns-then-size-gt-MAX_ENTRIES-clause-did g c =
    let name = c.args.from.now.name.now in
    let left : c.if-is_same.left ≡ cond (same_name c.args.from.now.dir.place.blob.0 c.args.to.now.dir.place.blob.0) (entry_size name) 0 = elim c.if-is_same.branch [
      | then-is_same v ↦ let same = ap (λ b. cond b (entry_size name) 0) (sym c.is_same.ensures ∙ v.if-is_same.true) in omega (arith, v.left-is, ap length v.as_slice.ensures.value, same)
      | else-is_same v ↦ let same = ap (λ b. cond b (entry_size name) 0) (sym c.is_same.ensures ∙ v.if-is_same.false) in omega (arith, v.left-is, same)
    ] in
    idle g.met.B.Blobs.lawful c.args.b.now (Error TooLarge) c.requires.intact
    (λ w. too_large w c.args.b.now w.stands (elim c.then-size-gt-MAX_ENTRIES.branch [
      | then-size-gt-MAX_ENTRIES-via-then-size-gt-MAX_ENTRIES v ↦ absurd (omega (arith, body_size w, v.if-size-gt-MAX_ENTRIES.true, w.shows.well_formed.directories w.below))
      | then-size-gt-MAX_ENTRIES-via-else-size-gt-MAX_ENTRIES+then-size-as_slice v ↦ omega (arith, body_size w, size_next w, left, ap length v.as_slice-else-size-gt-MAX_ENTRIES.ensures.value, v.if-size-as_slice.true)
    ]))

pub returns-in_err-relocate-clause-did : goal.returns-in_err-relocate-clause-did
returns-in_err-relocate-clause-did g c =
    let named : IsName c.args.to.now.name.now = subst IsName c.as_slice-else-size-gt-MAX_ENTRIES.ensures.value c.as_slice-else-size-gt-MAX_ENTRIES.ensures.name in
    let name = c.args.from.now.name.now in
    let left : c.if-is_same.left ≡ cond (same_name c.args.from.now.dir.place.blob.0 c.args.to.now.dir.place.blob.0) (entry_size name) 0 = elim c.if-is_same.branch [
      | then-is_same v ↦ let same = ap (λ b. cond b (entry_size name) 0) (sym c.is_same.ensures ∙ v.if-is_same.true) in omega (arith, v.left-is, ap length v.as_slice.ensures.value, same)
      | else-is_same v ↦ let same = ap (λ b. cond b (entry_size name) 0) (sym c.is_same.ensures ∙ v.if-is_same.false) in omega (arith, v.left-is, same)
    ] in
    let small : (w : Heading g.B.Blobs.holdings c.args.b.now c.args.now c.args.from.now c.args.to.now.dir c.args.to.now.name.now c.args.to.now.body.items) → directory_size (next w) w.below ≤ MAX_ENTRIES =
    λ w. omega (arith, body_size w, size_next w, left, ap length c.as_slice-else-size-gt-MAX_ENTRIES.ensures.value, c.if-size-as_slice.false) in
    let p = err_from_is_err_and c.from_residual-in_err-relocate.result c.from_residual-in_err-relocate.ensures.1 in
    rw (p.1, p.2) (passed (first_ {R = λ _ _. Unit {0}} (λ (w : Heading g.B.Blobs.holdings c.args.b.now c.args.now c.args.from.now c.args.to.now.dir c.args.to.now.name.now c.args.to.now.body.items).
    moving w c.args.b.now w.stands named (small w) c.in_ok-try_clone.field-0 (sym c.in_ok-try_clone.ensures) _ refl refl) c.in_err-relocate.ensures (λ _ _ _. tt)))

pub returns-clause-did : goal.returns-clause-did
returns-clause-did g c =
    let named : IsName c.args.to.now.name.now = subst IsName c.as_slice-else-size-gt-MAX_ENTRIES.ensures.value c.as_slice-else-size-gt-MAX_ENTRIES.ensures.name in
    let name = c.args.from.now.name.now in
    let left : c.if-is_same.left ≡ cond (same_name c.args.from.now.dir.place.blob.0 c.args.to.now.dir.place.blob.0) (entry_size name) 0 = elim c.if-is_same.branch [
      | then-is_same v ↦ let same = ap (λ b. cond b (entry_size name) 0) (sym c.is_same.ensures ∙ v.if-is_same.true) in omega (arith, v.left-is, ap length v.as_slice.ensures.value, same)
      | else-is_same v ↦ let same = ap (λ b. cond b (entry_size name) 0) (sym c.is_same.ensures ∙ v.if-is_same.false) in omega (arith, v.left-is, same)
    ] in
    let small : (w : Heading g.B.Blobs.holdings c.args.b.now c.args.now c.args.from.now c.args.to.now.dir c.args.to.now.name.now c.args.to.now.body.items) → directory_size (next w) w.below ≤ MAX_ENTRIES =
    λ w. omega (arith, body_size w, size_next w, left, ap length c.as_slice-else-size-gt-MAX_ENTRIES.ensures.value, c.if-size-as_slice.false) in
    let o : Outcome g.B.Blobs.meanings (Heading g.B.Blobs.holdings c.args.b.now c.args.now c.args.from.now c.args.to.now.dir c.args.to.now.name.now c.args.to.now.body.items) c.args.b.now c.relocate.new.b (Ok c.in_ok-relocate.field-0)
    (λ w _. IsShownBy g.B.Blobs.holdings c.relocate.new.b w.root (next w) (ids_next w)) =
    first_ (λ w. moving w c.args.b.now w.stands named (small w) c.in_ok-try_clone.field-0 (sym c.in_ok-try_clone.ensures) _ refl refl) c.in_ok-relocate.ensures
    (λ w y k. shown_as w c.relocate.new.b c.in_ok-try_clone.field-0 (sym c.in_ok-try_clone.ensures) k) in
    made c.done.ensures.is (then_ g.met.B.Blobs.lawful o (λ w h. touching w c.relocate.new.b h) c.touch_both.ensures (λ w h y k. moved_done w c.touch_both.new.b (small w) k))
    (λ w y h. h)
