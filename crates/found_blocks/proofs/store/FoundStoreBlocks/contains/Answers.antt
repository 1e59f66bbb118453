use Rattle.std.proofs.Common.{sym, ◌∙◌}
use Rattle.found_blocks.specs.Finding.{payload_of}
use Rattle.found_blocks.specs.Rows.{author_in}
use Rattle.found_blocks.specs.StoreLaws.{found_is_some, has_row}
use Rattle.found_blocks.specs.Views.{finding_by}
use Rattle.found_blocks.proofs.store.FoundStoreBlocks.contains.Goals as goal

pub returns : goal.returns
returns g c =
    let f = finding_by g.C.Sealer.opens c.args.self.now in
    c.has.ensures ∙ (has_row f.rows c.args.id.now.0 ∙ sym (found_is_some (author_in f.rows c.args.id.now.0) (payload_of f c.args.id.now.0)))
