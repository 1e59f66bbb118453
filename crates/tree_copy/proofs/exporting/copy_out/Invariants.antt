use Rattle.std.proofs.Common.{◌≡◌}
use Rattle.tree_copy.specs.Exports.{IsOutAt}
use Rattle.tree_copy.specs.Levels.{HasTargets, todo_of}
use Rattle.tree_copy.proofs.exporting.copy_out.Given as goal

abbrev pub invariant-loop : goal.invariant-loop
invariant-loop g l = record {
  ready : g.A.Asker.asking.ready l.asker;
  faults : g.F.Folder.faults l.host ≡ g.F.Folder.faults l.fn.host;
  stops : g.A.Asker.asking.stops l.asker ≡ g.A.Asker.asking.stops l.fn.asker;
  at : IsOutAt g.A.Asker.asking l.fn.asker l.asker (g.F.Folder.tree l.fn.host) (g.F.Folder.tree l.host) l.source (todo_of l.levels.items) l.totals;
  targets : HasTargets l.source l.levels.items;
}
