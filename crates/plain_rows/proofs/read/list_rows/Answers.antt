use Rattle.std.proofs.Common.{◌≡◌, get_or, map, Some, None, IfOk, sym, ◌∙◌, ap, subst}
use Rattle.fs_model.specs.Tree.{upward}
use Rattle.fs_model.specs.Step.{list_row}
use Rattle.plain_rows.specs.Rows.{names_of, item_entry}
use Rattle.plain_rows.proofs.FlatLemmas.{entries-children}
use Rattle.plain_rows.proofs.FullLemmas.{full_at}
use Rattle.plain_rows.proofs.read.list_rows.Goals as goal

pub returns-in-Ok : goal.returns-in-Ok
returns-in-Ok c =
    let fs = c.args.folders.now in
    let x = c.index-folders-f.result in
    let at = c.in-Ok.ensures.found in
    let full = full_at fs c.in-Ok.f x c.requires.full at.in_range in
    let rows = c.deref-in-Ok.ensures.value ∙ ap (λ g. g.items.items) (c.deref.ensures ∙ ap (λ b. b.value) c.index-folders-f.is) in
    subst (λ es. IfOk c.list_items.result (λ rows. rows.items ≡ map list_row es))
    (ap (map item_entry) rows ∙ sym (entries-children fs (upward c.args.names.now) c.requires.sorted (Some (names_of (get_or fs c.in-Ok.f x).value)) (at.found x) full.sorted)) c.list_items.ensures

pub returns-in-Err : goal.returns-in-Err
returns-in-Err c = c.new.ensures.items ∙ sym (ap (map list_row) (entries-children c.args.folders.now (upward c.args.names.now) c.requires.sorted None c.in-Err.ensures.absent.absent tt))
