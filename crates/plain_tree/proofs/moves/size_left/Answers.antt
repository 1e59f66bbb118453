use Rattle.std.proofs.Common.{true, sym, ◌∙◌}
use Rattle.fs_model.proofs.PathLemmas.{some_names}
use Rattle.plain_tree.proofs.CarryLemmas.{left_is, none_left}
use Rattle.plain_tree.proofs.moves.size_left.Goals as goal

pub returns-then-same_names : goal.returns-then-same_names
returns-then-same_names c =
    let fs = c.args.from.now in
    let ts = c.args.to.now in
    c.name_size.ensures.value ∙ left_is fs ts c.index-from-from_last.result true (some_names fs c.requires.from) (some_names ts c.requires.to) (sym c.same_names.ensures ∙ c.if-same_names.true) c.index-from-from_last.is

pub returns-else-same_names : goal.returns-else-same_names
returns-else-same_names c =
    let fs = c.args.from.now in
    let ts = c.args.to.now in
    none_left fs ts (some_names fs c.requires.from) (some_names ts c.requires.to) (sym c.same_names.ensures ∙ c.if-same_names.false)
