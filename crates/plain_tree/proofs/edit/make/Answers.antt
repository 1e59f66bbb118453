use Rattle.std.proofs.Common.{◌≡◌, ◌+◌, ◌<◌, ◌≤◌, ◌-◌, length, take, sym, ◌∙◌, ap, arith}
use Rattle.std.specs.FinMap.{get}
use Rattle.fs_model.specs.declared.limits.TheConstants.{MAX_ENTRIES}
use Rattle.fs_model.specs.Tree.{upward, parent, directory_size, entry_size, root_row}
use Rattle.fs_model.specs.LookUp.{Found, Free}
use Rattle.fs_model.specs.Step.{touched}
use Rattle.fs_model.proofs.LookUpLemmas.{look-found}
use Rattle.fs_model.proofs.PathLemmas.{not_root}
use Rattle.plain_rows.proofs.EditLemmas.{no_names}
use Rattle.plain_tree.proofs.StepLemmas.{any_names, free_absent, made_new, made_large}
use Rattle.plain_tree.proofs.edit.make.Goals as goal

pub returns-then-is_empty-clause-ok : goal.returns-then-is_empty-clause-ok
returns-then-is_empty-clause-ok c =
    let empty = no_names c.args.names.now (sym c.is_empty.ensures ∙ c.if-is_empty.true) in
    let root : Found root_row ≡ Free = sym (look-found c.args.table.now (upward c.args.names.now) root_row (ap (get c.args.table.now) empty ∙ c.requires.rooted.root)) ∙ c.in-Free.ensures in
    absurd (cc)

pub insert-requires-clause-named : goal.insert-requires-clause-named
insert-requires-clause-named c =
    let some = any_names c.args.names.now c.is_empty.ensures c.if-is_empty.false in
    not_root c.args.names.now some

pub insert-requires-clause-absent : goal.insert-requires-clause-absent
insert-requires-clause-absent c = free_absent c.args.table.now (upward c.args.names.now) c.requires c.in-Free.ensures

pub insert-requires-clause-room : goal.insert-requires-clause-room
insert-requires-clause-room c = c.requires.directories (parent (upward c.args.names.now))

pub returns-then-size-name_size-gt-MAX_ENTRIES-clause-ok : goal.returns-then-size-name_size-gt-MAX_ENTRIES-clause-ok
returns-then-size-name_size-gt-MAX_ENTRIES-clause-ok c =
    let t = c.args.table.now in
    let ns = c.args.names.now in
    let n = c.index-names-last.result in
    let some = any_names c.args.names.now c.is_empty.ensures c.if-is_empty.false in
    let passes : MAX_ENTRIES < directory_size t (upward (take (length ns - 1) ns)) + entry_size n = omega (arith, c.size.ensures, c.name_size.ensures.value, c.if-size-name_size-gt-MAX_ENTRIES.true) in
    made_large t c.args.now ns n _ some c.index-names-last.is c.in-Free.ensures passes

pub returns-clause-ok : goal.returns-clause-ok
returns-clause-ok c =
    let t = c.args.table.now in
    let ns = c.args.names.now in
    let n = c.index-names-last.result in
    let some = any_names c.args.names.now c.is_empty.ensures c.if-is_empty.false in
    let fits : directory_size t (upward (take (length ns - 1) ns)) + entry_size n ≤ MAX_ENTRIES = omega (arith, c.size.ensures, c.name_size.ensures.value, c.if-size-name_size-gt-MAX_ENTRIES.false) in
    made_new t c.touch_above.new.table c.args.now ns n _ some c.index-names-last.is c.in-Free.ensures fits (c.touch_above.ensures ∙ ap (λ z. touched z c.args.now (parent (upward c.args.names.now))) c.in_ok-insert.ensures.ok)
