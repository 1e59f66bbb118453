use Rattle.std.proofs.Common.{◌≡◌, ◌+◌, false, true, length, max, sym, ◌∙◌, ap, subst}
use Rattle.std.specs.Prelude.{IsSome}
use Rattle.std.specs.FinMap as tree
use Rattle.fs_model.specs.Tree.{upward}
use Rattle.block_id.specs.Contents.{overwritten}
use Rattle.fs_model.specs.Step.{is_too_long}
use Rattle.fs_model.proofs.Lengths.{end_tests}
use Rattle.fs_model.proofs.LookUpLemmas.{get-found}
use Rattle.plain_tree.proofs.StepLemmas.{there_of, file_named, set_there, put_back, bytes_are, same_row, content_set, written_done, written_nothing, written_large}
use Rattle.plain_tree.proofs.Refusals.{write_refused}
use Rattle.plain_tree.proofs.change.write.Goals as goal

pub returns-in-Err-clause-ok : goal.returns-in-Err-clause-ok
returns-in-Err-clause-ok c = write_refused c.args.table.now c.args.now (upward c.args.names.now) c.args.from c.args.bytes.now c.in-Err.error c.in-Err.ensures.refused

pub returns-then-is_empty-clause-ok : goal.returns-then-is_empty-clause-ok
returns-then-is_empty-clause-ok c =
    let f = c.in-Ok.ensures.found in
    written_nothing c.args.table.now (upward c.args.names.now) f.row c.args.now f.seen f.kind c.args.from c.args.bytes.now (sym c.is_empty.ensures ∙ c.if-is_empty.true)

pub returns-then-is_too_long-clause-ok : goal.returns-then-is_too_long-clause-ok
returns-then-is_too_long-clause-ok c =
    let f = c.in-Ok.ensures.found in
    let old = length f.row.bytes in
    let end = c.saturating_add-end.result in
    let long : is_too_long old (max old (c.args.from + length c.args.bytes.now)) ≡ true =
    end_tests old c.args.from (length c.args.bytes.now) end c.max.result c.saturating_add-end.ensures (c.max.ensures ∙ ap (max end) (sym f.len))
    ∙ (ap (λ n. is_too_long n c.max.result) f.len ∙ (sym c.is_too_long.ensures ∙ c.if-is_too_long.true)) in
    written_large c.args.table.now (upward c.args.names.now) f.row c.args.now f.seen f.kind c.args.from c.args.bytes.now (sym c.is_empty.ensures ∙ c.if-is_empty.false) long

pub set-content-requires-clause-named : goal.set-content-requires-clause-named
set-content-requires-clause-named c = let f = c.in-Ok.ensures.found in file_named c.args.table.now (upward c.args.names.now) f.row c.requires f.seen f.kind

pub set-content-requires-clause-there : goal.set-content-requires-clause-there
set-content-requires-clause-there c = let f = c.in-Ok.ensures.found in there_of c.args.table.now (upward c.args.names.now) f.row f.seen

pub returns-in-Ok-overwrite-clause-ok : goal.returns-in-Ok-overwrite-clause-ok
returns-in-Ok-overwrite-clause-ok c =
    let f = c.in-Ok.ensures.found in
    let t = c.args.table.now in
    let p = upward c.args.names.now in
    let from = c.args.from in
    let bytes = c.args.bytes.now in
    let old = length f.row.bytes in
    let end = c.saturating_add-end.result in
    let short : is_too_long old (max old (from + length bytes)) ≡ false =
    end_tests old from (length bytes) end c.max.result c.saturating_add-end.ensures (c.max.ensures ∙ ap (max end) (sym f.len))
    ∙ (ap (λ n. is_too_long n c.max.result) f.len ∙ (sym c.is_too_long.ensures ∙ c.if-is_too_long.false)) in
    let content = bytes_are (tree.get t p) f.row c.set-content.result.items (get-found t p f.row f.seen) c.set-content.ensures.bytes in
    let whole = c.in-Ok-overwrite.ensures.ok ∙ ap (λ z. overwritten z from bytes) content in
    written_done t c.set.new.self p f.row c.args.now f.seen f.kind from bytes (sym c.is_empty.ensures ∙ c.if-is_empty.false) short
    (content_set t c.set-content.new.self c.set.new.self p (record { attr = c.same_attr.result; bytes = c.new-none.result.items }) f.row c.args.now c.in-Ok.file.0 c.touched.result c.overwrite.new.content.items (overwritten f.row.bytes from bytes)
    f.attr c.set-content.ensures.tree c.touched.ensures whole c.set.ensures.tree)

pub returns-in-Err-overwrite-clause-err : goal.returns-in-Err-overwrite-clause-err
returns-in-Err-overwrite-clause-err c =
    let f = c.in-Ok.ensures.found in
    let t = c.args.table.now in
    let p = upward c.args.names.now in
    let content = bytes_are (tree.get t p) f.row c.set-content.result.items (get-found t p f.row f.seen) c.set-content.ensures.bytes in
    put_back t c.set-content.new.self c.set-in-Err-overwrite.new.self p (record { attr = c.same_attr.result; bytes = c.new-none.result.items }) (record { attr = c.in-Ok.file.0; bytes = c.overwrite.new.content.items }) f.row
    c.set-content.ensures.tree c.set-in-Err-overwrite.ensures.tree (get-found t p f.row f.seen) (same_row f.row c.in-Ok.file.0 c.overwrite.new.content.items (sym f.attr) (c.in-Err-overwrite.ensures.err ∙ content))

pub set-requires-clause-named : goal.set-requires-clause-named
set-requires-clause-named c = let f = c.in-Ok.ensures.found in file_named c.args.table.now (upward c.args.names.now) f.row c.requires f.seen f.kind

pub set-requires-clause-there : goal.set-requires-clause-there
set-requires-clause-there c =
    let p = upward c.args.names.now in
    subst (λ z. IsSome (tree.get z p)) (sym c.set-content.ensures.tree) (set_there c.args.table.now p (record { attr = c.same_attr.result; bytes = c.new-none.result.items }))

pub set-requires-in-Err-overwrite-clause-named : goal.set-requires-in-Err-overwrite-clause-named
set-requires-in-Err-overwrite-clause-named c = let f = c.in-Ok.ensures.found in file_named c.args.table.now (upward c.args.names.now) f.row c.requires f.seen f.kind

pub set-requires-in-Err-overwrite-clause-there : goal.set-requires-in-Err-overwrite-clause-there
set-requires-in-Err-overwrite-clause-there c =
    let p = upward c.args.names.now in
    subst (λ z. IsSome (tree.get z p)) (sym c.set-content.ensures.tree) (set_there c.args.table.now p (record { attr = c.same_attr.result; bytes = c.new-none.result.items }))
