use Rattle.plain_rows.proofs.EditLemmas.{no_folders_tree}
use Rattle.plain_rows.proofs.table.Table.new.Goals as goal

pub returns : goal.returns
returns c = no_folders_tree c.new.result.items c.new.ensures.items
