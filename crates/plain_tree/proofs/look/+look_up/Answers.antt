use Rattle.std.proofs.Common.{◌≡◌, sym, ◌∙◌, ap, None, Some}
use Rattle.std.specs.Prelude.{cond}
use Rattle.std.specs.FinMap.{get}
use Rattle.fs_model.specs.declared.error.FsError.TheVariants.{NotDirectory}
use Rattle.fs_model.specs.Tree.{upward, is_directory, root_row}
use Rattle.fs_model.specs.LookUp.{Free, Bad}
use Rattle.fs_model.proofs.LookUpLemmas.{look-found}
use Rattle.plain_rows.proofs.EditLemmas.{no_names}
use Rattle.plain_tree.proofs.StepLemmas.{any_names, seen_above}
use Rattle.plain_tree.proofs.look.+look_up.Goals as goal

pub returns-in-Some : goal.returns-in-Some
returns-in-Some t c = look-found c.args.table.now (upward c.args.names.now) _ (sym c.in-Some.ensures)

pub unreachable-requires : goal.unreachable-requires
unreachable-requires t c =
    let root : get c.args.table.now (upward c.args.names.now) ≡ Some root_row = ap (get c.args.table.now) (no_names c.args.names.now (sym c.is_empty.ensures ∙ c.if-is_empty.true)) ∙ c.requires.rooted.root in
    let none : None ≡ get c.args.table.now (upward c.args.names.now) = c.in-None.ensures in
    cc

pub returns-in-Directory : goal.returns-in-Directory
returns-in-Directory t c =
    let some = any_names c.args.names.now c.is_empty.ensures c.if-is_empty.false in
    seen_above c.args.table.now c.args.names.now _ c.requires some (sym c.in-None.ensures) c.in-Found.ensures ∙ ap (λ k. cond (is_directory k) Free (Bad NotDirectory)) c.in-Directory.is

pub returns-in-File : goal.returns-in-File
returns-in-File t c =
    let some = any_names c.args.names.now c.is_empty.ensures c.if-is_empty.false in
    seen_above c.args.table.now c.args.names.now _ c.requires some (sym c.in-None.ensures) c.in-Found.ensures ∙ ap (λ k. cond (is_directory k) Free (Bad NotDirectory)) c.in-File.is

pub returns-in-Link : goal.returns-in-Link
returns-in-Link t c =
    let some = any_names c.args.names.now c.is_empty.ensures c.if-is_empty.false in
    seen_above c.args.table.now c.args.names.now _ c.requires some (sym c.in-None.ensures) c.in-Found.ensures ∙ ap (λ k. cond (is_directory k) Free (Bad NotDirectory)) c.in-Link.is

pub returns-in-Free : goal.returns-in-Free
returns-in-Free t c =
    let some = any_names c.args.names.now c.is_empty.ensures c.if-is_empty.false in
    seen_above c.args.table.now c.args.names.now _ c.requires some (sym c.in-None.ensures) c.in-Free.ensures

pub returns-in-Bad : goal.returns-in-Bad
returns-in-Bad t c =
    let some = any_names c.args.names.now c.is_empty.ensures c.if-is_empty.false in
    seen_above c.args.table.now c.args.names.now _ c.requires some (sym c.in-None.ensures) c.in-Bad.ensures
