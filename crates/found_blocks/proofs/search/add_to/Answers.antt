use Rattle.std.proofs.Common.{◌∙◌, ap}
use Rattle.found_blocks.specs.Rows.{author_of, entries_in}
use Rattle.found_blocks.proofs.Trees.{tree_put}
use Rattle.found_blocks.proofs.search.add_to.Goals as goal

pub returns-clause-ok : goal.returns-clause-ok
returns-clause-ok c = ap entries_in c.in_ok-insert.ensures.entries ∙ tree_put author_of c.args.found.now.entries c.args.row.id c.args.row
