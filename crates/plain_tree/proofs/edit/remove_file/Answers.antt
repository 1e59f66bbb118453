use Rattle.std.proofs.Common.{sym, ◌∙◌, ap}
use Rattle.fs_model.specs.Tree.{parent, upward, is_root}
use Rattle.fs_model.specs.Step.{touched}
use Rattle.fs_model.proofs.PathLemmas.{not_root}
use Rattle.plain_rows.proofs.EditLemmas.{no_names}
use Rattle.plain_tree.proofs.StepLemmas.{any_names, there_of, file_gone, no_file}
use Rattle.plain_tree.proofs.Refusals.{root_step, removal_refused}
use Rattle.plain_tree.proofs.edit.remove_file.Goals as goal

pub returns-then-is_empty : goal.returns-then-is_empty
returns-then-is_empty c = root_step c.args.table.now (upward c.args.names.now) _ (ap is_root (no_names c.args.names.now (sym c.is_empty.ensures ∙ c.if-is_empty.true)))

pub returns-in-Err : goal.returns-in-Err
returns-in-Err c =
    let some = any_names c.args.names.now c.is_empty.ensures c.if-is_empty.false in
    removal_refused c.args.table.now c.args.now (upward c.args.names.now) c.in-Err.error (not_root c.args.names.now some) c.in-Err.ensures.refused

pub returns-then-is_directory : goal.returns-then-is_directory
returns-then-is_directory c =
    let some = any_names c.args.names.now c.is_empty.ensures c.if-is_empty.false in
    no_file c.args.table.now c.args.table.now c.args.now (upward c.args.names.now) _ (not_root c.args.names.now some) c.in-Ok.ensures.found (sym c.is_directory.ensures ∙ c.if-is_directory.true)

pub remove-requires-clause-named : goal.remove-requires-clause-named
remove-requires-clause-named c =
    let some = any_names c.args.names.now c.is_empty.ensures c.if-is_empty.false in
    not_root c.args.names.now some

pub remove-requires-clause-there : goal.remove-requires-clause-there
remove-requires-clause-there c = there_of c.args.table.now (upward c.args.names.now) _ c.in-Ok.ensures.found

pub returns : goal.returns
returns c =
    let some = any_names c.args.names.now c.is_empty.ensures c.if-is_empty.false in
    file_gone c.args.table.now c.touch_above.new.table c.args.now (upward c.args.names.now) _ (not_root c.args.names.now some) c.in-Ok.ensures.found (sym c.is_directory.ensures ∙ c.if-is_directory.false) (c.touch_above.ensures ∙ ap (λ z. touched z c.args.now (parent (upward c.args.names.now))) c.remove.ensures.tree)
