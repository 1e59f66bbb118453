use Rattle.std.proofs.Common.{◌∷◌, ◌++◌, refl, sym, ◌∙◌, ap, subst}
use Rattle.std.specs.Prelude.{cond, IsSome, is_some}
use Rattle.std.specs.FinMap as tree
use Rattle.fs_model.specs.Tree.{upward, parent, is_directory}
use Rattle.fs_model.specs.declared.attr.Attr.{Attr}
use Rattle.plain_rows.specs.Moves.{IsBelowMoved}
use Rattle.plain_tree.specs.Moves.{held}
use Rattle.plain_tree.proofs.CarryLemmas.{here_after, there_after, arrived_is, bare_held, leaf_held, there_held, let_go_is, is_there}
use Rattle.plain_tree.proofs.moves.carry.Goals as goal

pub hold-requires-clause-named : goal.hold-requires-clause-named
hold-requires-clause-named c = c.requires.moves.2.to_named

pub hold-requires-clause-target : goal.hold-requires-clause-target
hold-requires-clause-target c = c.requires.moves.2.target

pub hold-requires-clause-room : goal.hold-requires-clause-room
hold-requires-clause-room c = c.requires.formed.directories (parent (upward c.args.to.now))

pub move_below-requires-clause-bare : goal.move_below-requires-clause-bare
move_below-requires-clause-bare c = λ s n.
    ap (λ z. tree.get z (n ∷ (s ++ upward c.args.to.now))) c.in_ok-hold.ensures.ok
    ∙ bare_held c.args.table.now (upward c.args.from.now) (upward c.args.to.now) c.requires.moves.0 c.args.replaces c.same_attr.result c.requires.moves.2 s n

pub move_below-requires-clause-leaf : goal.move_below-requires-clause-leaf
move_below-requires-clause-leaf c = λ file s n.
    ap (λ z. tree.get z (n ∷ (s ++ upward c.args.from.now))) c.in_ok-hold.ensures.ok
    ∙ leaf_held c.args.table.now (upward c.args.from.now) (upward c.args.to.now) c.requires.moves.0 c.args.replaces c.same_attr.result c.requires.formed.rooted c.requires.moves.2
    (ap (λ (a : Attr). is_directory a.kind) c.requires.moves.1 ∙ file) s n

pub let_go-requires-clause-named : goal.let_go-requires-clause-named
let_go-requires-clause-named c = c.requires.moves.2.to_named

pub let_go-requires-clause-there : goal.let_go-requires-clause-there
let_go-requires-clause-there c =
    ap (λ z. is_some (tree.get z (upward c.args.to.now))) (c.in-Err.ensures.err ∙ c.in_ok-hold.ensures.ok)
    ∙ there_held c.args.table.now (upward c.args.from.now) (upward c.args.to.now) c.requires.moves.0 c.args.replaces c.same_attr.result c.requires.moves.2

pub returns-in-Err-clause-err : goal.returns-in-Err-clause-err
returns-in-Err-clause-err c =
    let q = upward c.args.to.now in
    c.let_go.ensures
    ∙ (ap (λ z. cond c.args.replaces z (tree.remove z q)) (c.in-Err.ensures.err ∙ c.in_ok-hold.ensures.ok)
    ∙ let_go_is c.args.table.now q c.same_attr.result c.args.replaces c.requires.moves.2.target)

pub remove-bytes-requires-clause-named : goal.remove-bytes-requires-clause-named
remove-bytes-requires-clause-named c = c.requires.moves.2.from_named

pub remove-bytes-requires-clause-there : goal.remove-bytes-requires-clause-there
remove-bytes-requires-clause-there c =
    let p = upward c.args.from.now in
    let q = upward c.args.to.now in
    let t2 = c.move_below.new.table in
    let moved : IsBelowMoved (held c.args.table.now q c.same_attr.result c.args.replaces) t2 p q = subst (λ z. IsBelowMoved z t2 p q) c.in_ok-hold.ensures.ok c.in-Ok.ensures.ok in
    subst IsSome (sym (here_after c.args.table.now c.args.now p q c.requires.moves.0 c.args.replaces c.same_attr.result c.requires.moves.2 t2 moved)) refl

pub set-requires-clause-named : goal.set-requires-clause-named
set-requires-clause-named c = c.requires.moves.2.to_named

pub set-requires-clause-there : goal.set-requires-clause-there
set-requires-clause-there c =
    let p = upward c.args.from.now in
    let q = upward c.args.to.now in
    let t2 = c.move_below.new.table in
    let moved : IsBelowMoved (held c.args.table.now q c.same_attr.result c.args.replaces) t2 p q = subst (λ z. IsBelowMoved z t2 p q) c.in_ok-hold.ensures.ok c.in-Ok.ensures.ok in
    is_there (tree.get c.remove-bytes.new.self q) (ap (λ z. is_some (tree.get z q)) c.remove-bytes.ensures.tree
    ∙ there_after c.args.table.now c.args.now p q c.requires.moves.0 c.args.replaces c.same_attr.result c.requires.moves.2 t2 moved)

pub returns-clause-ok : goal.returns-clause-ok
returns-clause-ok c =
    arrived_is c.args.table.now c.args.now (upward c.args.from.now) (upward c.args.to.now) c.requires.moves.0 c.args.replaces c.same_attr.result c.requires.moves.2
    c.hold.new.table c.move_below.new.table c.remove-bytes.new.self c.set.new.self c.in_ok-hold.ensures.ok c.in-Ok.ensures.ok c.remove-bytes.ensures.tree
    c.args.attr c.arrived.result c.remove-bytes.result.items c.requires.moves.1 c.arrived.ensures c.remove-bytes.ensures.bytes c.set.ensures.tree
