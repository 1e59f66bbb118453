use Rattle.std.proofs.Common.{◌≡◌}
use Rattle.tree_copy.specs.Copies.{IsAt}
use Rattle.tree_copy.specs.Levels.{HasTargets, todo_of}
use Rattle.tree_copy.proofs.importing.import.Given as goal

abbrev pub invariant-loop : goal.invariant-loop
invariant-loop g l = record {
  ready : g.A.Asker.asking.ready l.asker;
  same : g.F.Folder.tree l.host ≡ g.F.Folder.tree l.fn.host;
  faults : g.F.Folder.faults l.host ≡ g.F.Folder.faults l.fn.host;
  stops : g.A.Asker.asking.stops l.asker ≡ g.A.Asker.asking.stops l.fn.asker;
  at : IsAt g.A.Asker.asking l.fn.asker l.asker (g.F.Folder.tree l.fn.host) l.target (todo_of l.levels.items) l.totals;
  targets : HasTargets l.target l.levels.items;
}
