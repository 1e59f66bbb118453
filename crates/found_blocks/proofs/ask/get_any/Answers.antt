use Rattle.std.proofs.Common.{◌+◌, subst}
use Rattle.outside.specs.Changes.{change_at}
use Rattle.outside.specs.Trace.{block}
use Rattle.block_versions.specs.sealed_store.BlockFiles.{seen_file_in}
use Rattle.block_versions.specs.sealed_store.Stores.{seen_file_of}
use Rattle.block_versions.specs.redo_vault.Redo.{Gave}
use Rattle.found_blocks.specs.Views.{finding_by}
use Rattle.found_blocks.proofs.Asking.{got_any, some_id, some_opens}
use Rattle.found_blocks.proofs.ask.get_any.Goals as goal

pub returns-in-Ok-clause-got_ : goal.returns-in-Ok-clause-got_
returns-in-Ok-clause-got_ g c =
    let f = finding_by g.C.Sealer.opens c.args.store.now in
    let old = g.V.Vault.trace c.args.store.now.sealed.vault.vault in
    let new = g.V.Vault.trace c.get_plain.new.self.vault.vault in
    let id = c.args.id.now.0 in
    let sees = c.in-Ok.ensures.sees in
    let whole = seen_file_in f.opens f.size 1 id sees.answer in
    got_any f old new id sees.answer c.open_any.result c.requires.intact.most (subst (λ list. Gave (change_at (block id) list) old new (block id) (f.size + 1) sees.answer) c.requires.list sees.gave)
    (some_id c.open_any.result c.args.id.now c.open_any.ensures.id) (some_opens f id sees.answer (seen_file_of c.in-Ok.seen) c.open_any.result sees.whole sees.shows c.open_any.ensures.opens)
