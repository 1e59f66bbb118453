use Rattle.std.proofs.Common.{sym, ◌∙◌, ap, subst}
use Rattle.std.specs.Prelude.{IsSome}
use Rattle.std.specs.FinMap as tree
use Rattle.fs_model.specs.Tree.{upward}
use Rattle.block_id.specs.Contents.{resized}
use Rattle.fs_model.specs.Step.{is_too_long}
use Rattle.fs_model.proofs.LookUpLemmas.{get-found}
use Rattle.plain_tree.proofs.StepLemmas.{there_of, file_named, set_there, put_back, bytes_are, same_row, content_set, truncated_done, truncated_large}
use Rattle.plain_tree.proofs.Refusals.{truncate_refused}
use Rattle.plain_tree.proofs.change.truncate.Goals as goal

pub returns-in-Err-clause-ok : goal.returns-in-Err-clause-ok
returns-in-Err-clause-ok c = truncate_refused c.args.table.now c.args.now (upward c.args.names.now) c.args.len c.in-Err.error c.in-Err.ensures.refused

pub returns-then-is_too_long-clause-ok : goal.returns-then-is_too_long-clause-ok
returns-then-is_too_long-clause-ok c =
    let f = c.in-Ok.ensures.found in
    truncated_large c.args.table.now (upward c.args.names.now) f.row c.args.now f.seen f.kind c.args.len
    (ap (λ n. is_too_long n c.args.len) f.len ∙ (sym c.is_too_long.ensures ∙ c.if-is_too_long.true))

pub set-content-requires-clause-named : goal.set-content-requires-clause-named
set-content-requires-clause-named c = let f = c.in-Ok.ensures.found in file_named c.args.table.now (upward c.args.names.now) f.row c.requires f.seen f.kind

pub set-content-requires-clause-there : goal.set-content-requires-clause-there
set-content-requires-clause-there c = let f = c.in-Ok.ensures.found in there_of c.args.table.now (upward c.args.names.now) f.row f.seen

pub returns-in-Ok-resize-clause-ok : goal.returns-in-Ok-resize-clause-ok
returns-in-Ok-resize-clause-ok c =
    let f = c.in-Ok.ensures.found in
    let t = c.args.table.now in
    let p = upward c.args.names.now in
    let n = c.args.len in
    let short = ap (λ k. is_too_long k n) f.len ∙ (sym c.is_too_long.ensures ∙ c.if-is_too_long.false) in
    let content = bytes_are (tree.get t p) f.row c.set-content.result.items (get-found t p f.row f.seen) c.set-content.ensures.bytes in
    let whole = c.in-Ok-resize.ensures.ok ∙ ap (λ z. resized z n) content in
    truncated_done t c.set.new.self p f.row c.args.now f.seen f.kind n short
    (content_set t c.set-content.new.self c.set.new.self p (record { attr = c.same_attr.result; bytes = c.new-none.result.items }) f.row c.args.now c.in-Ok.file.0 c.touched.result c.resize.new.content.items (resized f.row.bytes n)
    f.attr c.set-content.ensures.tree c.touched.ensures whole c.set.ensures.tree)

pub returns-in-Err-resize-clause-err : goal.returns-in-Err-resize-clause-err
returns-in-Err-resize-clause-err c =
    let f = c.in-Ok.ensures.found in
    let t = c.args.table.now in
    let p = upward c.args.names.now in
    let content = bytes_are (tree.get t p) f.row c.set-content.result.items (get-found t p f.row f.seen) c.set-content.ensures.bytes in
    put_back t c.set-content.new.self c.set-in-Err-resize.new.self p (record { attr = c.same_attr.result; bytes = c.new-none.result.items }) (record { attr = c.in-Ok.file.0; bytes = c.resize.new.content.items }) f.row
    c.set-content.ensures.tree c.set-in-Err-resize.ensures.tree (get-found t p f.row f.seen) (same_row f.row c.in-Ok.file.0 c.resize.new.content.items (sym f.attr) (c.in-Err-resize.ensures.err ∙ content))

pub set-requires-clause-named : goal.set-requires-clause-named
set-requires-clause-named c = let f = c.in-Ok.ensures.found in file_named c.args.table.now (upward c.args.names.now) f.row c.requires f.seen f.kind

pub set-requires-clause-there : goal.set-requires-clause-there
set-requires-clause-there c =
    let p = upward c.args.names.now in
    subst (λ z. IsSome (tree.get z p)) (sym c.set-content.ensures.tree) (set_there c.args.table.now p (record { attr = c.same_attr.result; bytes = c.new-none.result.items }))

pub set-requires-in-Err-resize-clause-named : goal.set-requires-in-Err-resize-clause-named
set-requires-in-Err-resize-clause-named c = let f = c.in-Ok.ensures.found in file_named c.args.table.now (upward c.args.names.now) f.row c.requires f.seen f.kind

pub set-requires-in-Err-resize-clause-there : goal.set-requires-in-Err-resize-clause-there
set-requires-in-Err-resize-clause-there c =
    let p = upward c.args.names.now in
    subst (λ z. IsSome (tree.get z p)) (sym c.set-content.ensures.tree) (set_there c.args.table.now p (record { attr = c.same_attr.result; bytes = c.new-none.result.items }))
