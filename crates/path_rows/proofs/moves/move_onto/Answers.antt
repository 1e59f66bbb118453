use Rattle.std.proofs.Common.{◌≡◌, Ok, ◌∙◌}
use Rattle.std.proofs.lemmas.Result.{err_from_is_err_and}
use Rattle.path_walks.specs.store_outcome.Outcome.{Outcome, first_, then_, passed}
use Rattle.path_walks.specs.dir_entries.Layout.{body_of}
use Rattle.path_walks.specs.dir_entries.Places.{without}
use Rattle.path_walks.specs.Showing.{IsShownBy}
use Rattle.path_rows.specs.Moves.{Replacing}
use Rattle.path_rows.proofs.Replacing.{dropping, rest, target, present, heading, replaced_then}
use Rattle.path_rows.proofs.moves.move_onto.Goals as goal

pub returns-in_err-drop_at-clause-did : goal.returns-in_err-drop_at-clause-did
returns-in_err-drop_at-clause-did g c =
    let p = err_from_is_err_and c.from_residual-in_err-drop_at.result c.from_residual-in_err-drop_at.ensures.1 in
    rw (p.1, p.2) (passed (first_ (λ w. dropping w) c.in_err-drop_at.ensures (λ w y h. h)))

pub returns-clause-did : goal.returns-clause-did
returns-clause-did g c =
    let H = g.B.Blobs.holdings in
    let left : (w : Replacing H c.args.b.now c.args.now c.args.from.now c.args.to.now) → c.in_ok-left.left.items ≡ body_of (without c.args.to.now.name.now w.lists.listing) =
    λ w. c.in_ok-left.ensures w.lists.listing (target w) (record { entries = w.lists.is.entries; text = c.deref.ensures.value ∙ w.lists.is.text }) (present w) in
    let o : Outcome g.B.Blobs.meanings (Replacing H c.args.b.now c.args.now c.args.from.now c.args.to.now) c.args.b.now c.drop_at.new.b (Ok c.in_ok-drop_at.field-0)
    (λ w _. IsShownBy H c.drop_at.new.b w.root (rest w) w.ids) =
    first_ (λ w. dropping w) c.in_ok-drop_at.ensures (λ w y h. h) in
    then_ g.met.B.Blobs.lawful o (λ w h. heading w c.drop_at.new.b h c.in_ok-left.left.items (left w)) c.move_free.ensures.did
    (λ w h y k. replaced_then w c.move_free.new.b y _ k)
