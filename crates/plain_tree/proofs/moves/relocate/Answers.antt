use Rattle.std.proofs.Common.{◌<◌, ◌≤◌, ◌∙◌, ap, arith}
use Rattle.fs_model.specs.declared.limits.TheConstants.{MAX_ENTRIES}
use Rattle.fs_model.specs.Tree.{upward, parent, directory_size}
use Rattle.fs_model.specs.Step.{moved_tree, touched}
use Rattle.plain_tree.proofs.CarryLemmas.{moved_size}
use Rattle.plain_tree.proofs.MoveSteps.{large_done, large_refused}
use Rattle.plain_tree.proofs.moves.relocate.Goals as goal

pub overflow_sub-size : goal.overflow_sub-size
overflow_sub-size c =
    let size = moved_size c.args.table.now c.args.now (upward c.args.from.now) (upward c.args.to.now) c.requires.moves.0 c.args.replaces c.requires.moves.2 in
    omega (arith, c.size_with-size.ensures.value, c.size_left.ensures, size)

pub size_left-requires-clause-from : goal.size_left-requires-clause-from
size_left-requires-clause-from c = c.requires.moves.2.from_named

pub size_left-requires-clause-to : goal.size_left-requires-clause-to
size_left-requires-clause-to c = c.requires.moves.2.to_named

pub size_with-size-requires-clause-to : goal.size_with-size-requires-clause-to
size_with-size-requires-clause-to c = c.requires.moves.2.to_named

pub returns-then-size-size_left-gt-MAX_ENTRIES-clause-ok : goal.returns-then-size-size_left-gt-MAX_ENTRIES-clause-ok
returns-then-size-size_left-gt-MAX_ENTRIES-clause-ok c = λ row m.
    let t = c.args.table.now in
    let p = upward c.args.from.now in
    let q = upward c.args.to.now in
    let size = moved_size t c.args.now p q row c.args.replaces m in
    let passes : MAX_ENTRIES < directory_size (moved_tree t c.args.now p q row) (parent q) = let over = c.if-size-size_left-gt-MAX_ENTRIES.true in omega (arith, c.size_with-size.ensures.value, c.size_left.ensures, size) in
    large_refused t p q c.args.now row passes

pub returns-clause-ok : goal.returns-clause-ok
returns-clause-ok c = λ row m.
    let t = c.args.table.now in
    let p = upward c.args.from.now in
    let q = upward c.args.to.now in
    let size = moved_size t c.args.now p q row c.args.replaces m in
    let fits : directory_size (moved_tree t c.args.now p q row) (parent q) ≤ MAX_ENTRIES = let within = c.if-size-size_left-gt-MAX_ENTRIES.false in omega (arith, c.size_with-size.ensures.value, c.size_left.ensures, size) in
    large_done t p q c.args.now c.touch_above-2.new.table row
    (c.touch_above-2.ensures ∙ (ap (λ z. touched z c.args.now (parent q)) c.touch_above.ensures ∙ ap (λ z. touched (touched z c.args.now (parent p)) c.args.now (parent q)) (c.in_ok-carry.ensures.ok row m))) fits
