use Rattle.std.proofs.Common.{◌≡◌, ◌-◌}
use Rattle.copy_row.specs.Reads.{IsOutTo}
use Rattle.copy_row.proofs.bytes_out.bytes_out.Given as goal

abbrev pub invariant-loop-place : goal.invariant-loop-place
invariant-loop-place g l = record {
  ready : g.A.Asker.asking.ready l.asker;
  faults : g.F.Folder.faults l.host ≡ g.F.Folder.faults l.initial.host;
  stops : g.A.Asker.asking.stops l.asker ≡ g.A.Asker.asking.stops l.initial.asker;
  out : IsOutTo g.A.Asker.asking l.initial.asker l.asker (g.F.Folder.tree l.initial.host) (g.F.Folder.tree l.host) l.at.tree l.at.host l.place;
}

abbrev pub decreases-loop-place : goal.decreases-loop-place
decreases-loop-place g l = 9223372036854775808 - l.place
