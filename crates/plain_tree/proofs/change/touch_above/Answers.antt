use Rattle.std.proofs.Common.{sym, ◌∙◌, ap}
use Rattle.fs_model.specs.Tree.{parent}
use Rattle.fs_model.specs.Step.{touched}
use Rattle.fs_model.proofs.PathLemmas.{parent_at}
use Rattle.plain_rows.proofs.EditLemmas.{no_names}
use Rattle.plain_tree.proofs.StepLemmas.{any_names}
use Rattle.plain_tree.proofs.change.touch_above.Goals as goal

pub returns-then-is_empty : goal.returns-then-is_empty
returns-then-is_empty c = sym (ap (λ p. touched c.args.table.now c.args.now (parent p)) (no_names c.args.names.now (sym c.is_empty.ensures ∙ c.if-is_empty.true)))

pub returns : goal.returns
returns c =
    c.touch.ensures ∙ sym (ap (touched c.args.table.now c.args.now) (parent_at c.args.names.now (any_names c.args.names.now c.is_empty.ensures c.if-is_empty.false)))
