use Rattle.found_blocks.proofs.Freeing.{has_where_found}
use Rattle.found_blocks.proofs.rows.FoundRows.has.Goals as goal

pub returns : goal.returns
returns c = has_where_found c.args.self.now c.args.id.now.0 c.find.result c.is_some.result c.find.ensures c.is_some.ensures
