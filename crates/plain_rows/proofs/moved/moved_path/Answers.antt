use Rattle.std.proofs.Common.{◌≡◌, ◌++◌, ◌-◌, length, take, drop, true, sym, ◌∙◌, ap, arith, length-drop}
use Rattle.std.proofs.lemmas.List.{take_all}
use Rattle.std.specs.Prelude.{is_some}
use Rattle.fs_model.specs.Tree.{upward}
use Rattle.fs_model.specs.Move.{strip, moved}
use Rattle.plain_rows.proofs.PrefixLemmas.{moved_front, joined_is}
use Rattle.plain_rows.proofs.moved.moved_path.Goals as goal

pub slice_bounds-joined-count : goal.slice_bounds-joined-count
slice_bounds-joined-count c = c.has_prefix.ensures.within c.if-has_prefix.true

pub slice_bounds-joined-start : goal.slice_bounds-joined-start
slice_bounds-joined-start c = c.has_prefix.ensures.within c.if-has_prefix.true

pub returns-then-has_prefix : goal.returns-then-has_prefix
returns-then-has_prefix c =
    let ns = c.names-names.result.now in
    let below : is_some (strip (upward c.args.from.now) (upward ns)) ≡ true = sym c.has_prefix.ensures.value ∙ c.if-has_prefix.true in
    let rest = drop (length c.args.from.now) ns in
    let whole : take (length ns - length c.args.from.now) rest ≡ rest = take_all (length ns - length c.args.from.now) rest (omega (arith, length-drop (length c.args.from.now) ns)) in
    joined_is c.joined.result (c.args.to.now ++ take (length ns - length c.args.from.now) rest) (moved (upward c.args.from.now) (upward c.args.to.now) (upward c.args.path.now)) c.joined.ensures
    (ap (λ z. upward (c.args.to.now ++ z)) whole ∙ moved_front ns c.args.from.now c.args.to.now below ∙ ap (λ z. moved (upward c.args.from.now) (upward c.args.to.now) (upward z)) c.names-names.ensures)
