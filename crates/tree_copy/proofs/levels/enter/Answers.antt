use Rattle.std.proofs.Common.{refl}
use Rattle.tree_copy.proofs.Stack.{rows_told}
use Rattle.tree_copy.proofs.levels.enter.Goals as goal

pub returns-clause-entered : goal.returns-clause-entered
returns-clause-entered g c = record {
  level = record { host = c.args.from; tree = c.in-Ok-copy_path.tree; rows = c.in-Ok.rows; next = 0 };
  is = c.in-Ok-push.ensures.items;
  host = refl;
  tree = c.in-Ok-copy_path.ensures;
  rise = c.in-Ok.ensures.order;
  rows = rows_told (g.F.Folder.tree c.args.host.now) c.args.from c.in-Ok.rows c.in-Ok.ensures.ok;
}
