use Rattle.std.proofs.Common.{◌≡◌, ◌+◌, ◌*◌, take}
use Rattle.std.specs.Prelude.{Ok}
use Rattle.copy_times.specs.Giving.{GaveRows}
use Rattle.copy_times.proofs.inward.+give.Given as goal

abbrev pub decreases-give_below : goal.decreases-give_below
decreases-give_below g l = 4 * l.depth

abbrev pub decreases-give_under : goal.decreases-give_under
decreases-give_under g l = 4 * l.depth + 1

abbrev pub decreases-give_row : goal.decreases-give_row
decreases-give_row g l = 4 * l.depth + 2

abbrev pub decreases-give_rows : goal.decreases-give_rows
decreases-give_rows g l = 4 * l.depth + 3

abbrev pub invariant-give_rows-loop-row : goal.invariant-give_rows-loop-row
invariant-give_rows-loop-row g l = record {
  ready : g.A.Asker.asking.ready l.asker;
  tree : g.F.Folder.tree l.host ≡ g.F.Folder.tree l.fn.host;
  same : g.F.Attributed.attributes l.host ≡ g.F.Attributed.attributes l.fn.host;
  host : g.F.Folder.faults l.host ≡ g.F.Folder.faults l.fn.host;
  stops : g.A.Asker.asking.stops l.asker ≡ g.A.Asker.asking.stops l.fn.asker;
  gave : GaveRows g.A.Asker.asking l.fn.asker l.asker (g.F.Attributed.attributes l.fn.host) (take l.row-index l.rows) l.from l.to l.depth {X = Unit {0}} (Ok tt);
}
