use Rattle.std.proofs.Common.{◌≡◌, sym, ◌∙◌, ap, arith}
use Rattle.std.specs.Prelude.{cond}
use Rattle.fs_model.specs.Tree.{upward, parent, last_name, entry_size, directory_size}
use Rattle.fs_model.proofs.PathLemmas.{some_names, parent_at}
use Rattle.plain_tree.proofs.moves.size_with.Goals as goal

pub returns-then-replaces : goal.returns-then-replaces
returns-then-replaces c =
    let ts = c.args.to.now in
    let size : c.size-size.result ≡ directory_size c.args.table.now (parent (upward ts)) = c.size-size.ensures ∙ ap (directory_size c.args.table.now) (sym (parent_at ts (some_names ts c.requires.to))) in
    let none = ap (λ b. cond b 0 (entry_size (last_name (upward ts)))) c.if-replaces.true in
    record { value = omega (arith, size, none) }
