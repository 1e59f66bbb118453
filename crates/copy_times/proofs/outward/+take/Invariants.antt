use Rattle.std.proofs.Common.{◌≡◌, ◌+◌, ◌*◌, take}
use Rattle.std.specs.Prelude.{Ok}
use Rattle.copy_times.specs.Taking.{TookRows}
use Rattle.copy_times.proofs.outward.+take.Given as goal

abbrev pub decreases-take_below : goal.decreases-take_below
decreases-take_below g l = 4 * l.depth

abbrev pub decreases-take_under : goal.decreases-take_under
decreases-take_under g l = 4 * l.depth + 1

abbrev pub decreases-take_row : goal.decreases-take_row
decreases-take_row g l = 4 * l.depth + 2

abbrev pub decreases-take_rows : goal.decreases-take_rows
decreases-take_rows g l = 4 * l.depth + 3

abbrev pub invariant-take_rows-loop-row : goal.invariant-take_rows-loop-row
invariant-take_rows-loop-row g l = record {
  ready : g.A.Asker.asking.ready l.asker;
  tree : g.F.Folder.tree l.host ≡ g.F.Folder.tree l.fn.host;
  host : g.F.Folder.faults l.host ≡ g.F.Folder.faults l.fn.host;
  stops : g.A.Asker.asking.stops l.asker ≡ g.A.Asker.asking.stops l.fn.asker;
  took : TookRows g.A.Asker.asking l.fn.asker l.asker (g.F.Attributed.attributes l.fn.host) (g.F.Attributed.attributes l.host) l.rows (take l.row-index l.rows) l.from l.to l.depth {X = Unit {0}} (Ok tt);
}
