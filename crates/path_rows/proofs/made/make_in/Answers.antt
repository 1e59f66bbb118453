use Rattle.std.proofs.Common.{◌≤◌, ◌+◌, ◌∷◌, length, Ok, ap, arith}
use Rattle.std.proofs.lemmas.Result.{err_from_is_err_and}
use Rattle.path_walks.specs.store_outcome.Outcome.{Outcome, first_, then_, idle, passed}
use Rattle.fs_model.specs.declared.error.FsError.TheVariants.{TooLarge}
use Rattle.fs_model.specs.declared.limits.TheConstants.{MAX_ENTRIES}
use Rattle.fs_model.specs.declared.reply.Reply.TheVariants.{Error}
use Rattle.fs_model.specs.Tree.{Row, directory_size, entry_size}
use Rattle.path_walks.specs.Midst.{ids_with}
use Rattle.path_rows.specs.Changes.{Making}
use Rattle.path_walks.specs.Showing.{IsShownBy}
use Rattle.path_walks.proofs.Told.{made}
use Rattle.path_rows.proofs.NewRow.{body_size, too_large, adding, more, touching, made_done}
use Rattle.path_rows.proofs.made.make_in.Goals as goal
use Rattle.path_rows.proofs.made.make_in.Goals.{then-size-gt-MAX_ENTRIES-via-then-size-gt-MAX_ENTRIES, then-size-gt-MAX_ENTRIES-via-else-size-gt-MAX_ENTRIES+then-size-as_slice-gt-MAX_ENTRIES}

pub returns-then-size-gt-MAX_ENTRIES-clause-did : goal.returns-then-size-gt-MAX_ENTRIES-clause-did
returns-then-size-gt-MAX_ENTRIES-clause-did g c =
    idle g.met.B.Blobs.lawful c.args.b.now (Error TooLarge) c.requires.intact
    (λ w. too_large w c.args.now c.args.b.now w.stands (elim c.then-size-gt-MAX_ENTRIES.branch [
      | then-size-gt-MAX_ENTRIES-via-then-size-gt-MAX_ENTRIES v ↦ omega (arith, body_size w, v.if-size-gt-MAX_ENTRIES.true)
      | then-size-gt-MAX_ENTRIES-via-else-size-gt-MAX_ENTRIES+then-size-as_slice-gt-MAX_ENTRIES v ↦ omega (arith, body_size w, ap length v.as_slice.ensures.value, v.if-size-as_slice-gt-MAX_ENTRIES.true)
    ]))

pub returns-in_err-add_row-clause-did : goal.returns-in_err-add_row-clause-did
returns-in_err-add_row-clause-did g c =
    let row : Row = record { attr = c.args.attr; bytes = c.args.bytes.now } in
    let p = err_from_is_err_and c.from_residual.result c.from_residual.ensures.1 in
    rw (p.1, p.2) (passed (first_ {R = λ _ _. Unit {0}}
    (λ (w : Making g.B.Blobs.holdings c.args.b.now c.args.at.now.dir c.args.at.now.name.now c.args.at.now.body.items row).
    adding w c.args.b.now w.stands (omega (arith, body_size w, ap length c.as_slice.ensures.value, c.if-size-as_slice-gt-MAX_ENTRIES.false)))
    c.in_err-add_row.ensures (λ _ _ _. tt)))

pub returns-clause-did : goal.returns-clause-did
returns-clause-did g c =
    let M = g.B.Blobs.meanings in
    let H = g.B.Blobs.holdings in
    let row : Row = record { attr = c.args.attr; bytes = c.args.bytes.now } in
    let n = c.args.at.now.name.now in
    let small : (w : Making H c.args.b.now c.args.at.now.dir n c.args.at.now.body.items row) → directory_size w.tree w.path + entry_size n ≤ MAX_ENTRIES =
    λ w. omega (arith, body_size w, ap length c.as_slice.ensures.value, c.if-size-as_slice-gt-MAX_ENTRIES.false) in
    let o : Outcome M (Making H c.args.b.now c.args.at.now.dir n c.args.at.now.body.items row) c.args.b.now c.add_row.new.b (Ok c.in_ok-add_row.field-0)
    (λ w y. IsShownBy H c.add_row.new.b w.root (more w) (ids_with w.ids (n ∷ w.path) y.0)) =
    first_ (λ w. adding w c.args.b.now w.stands (small w)) c.in_ok-add_row.ensures (λ w y k. k) in
    made c.done.ensures.is (then_ g.met.B.Blobs.lawful o (λ w h. touching w c.in_ok-add_row.field-0.0 c.add_row.new.b h) c.touch.ensures
    (λ w h y k. made_done w c.args.now (small w) c.touch.new.b (ids_with w.ids (n ∷ w.path) c.in_ok-add_row.field-0.0) k))
    (λ w y h. h)
