use Rattle.std.proofs.Common.{get_or, Some, None, sym, ◌∙◌, ap}
use Rattle.fs_model.specs.Tree.{upward, entries_size}
use Rattle.plain_rows.specs.Rows.{names_of}
use Rattle.plain_rows.proofs.FlatLemmas.{entries-children}
use Rattle.plain_rows.proofs.FullLemmas.{full_at}
use Rattle.plain_rows.proofs.read.size_of.Goals as goal

pub returns-in-Ok : goal.returns-in-Ok
returns-in-Ok c =
    let fs = c.args.folders.now in
    let x = c.index-folders-f.result in
    let at = c.in-Ok.ensures.found in
    let full = full_at fs c.in-Ok.f x c.requires.full at.in_range in
    ap (λ y. y.size) (c.deref.ensures ∙ ap (λ b. b.value) c.index-folders-f.is)
    ∙ (full.size ∙ sym (ap entries_size (entries-children fs (upward c.args.names.now) c.requires.sorted (Some (names_of (get_or fs c.in-Ok.f x).value)) (at.found x) full.sorted)))

pub returns-in-Err : goal.returns-in-Err
returns-in-Err c = sym (ap entries_size (entries-children c.args.folders.now (upward c.args.names.now) c.requires.sorted None c.in-Err.ensures.absent.absent tt))
