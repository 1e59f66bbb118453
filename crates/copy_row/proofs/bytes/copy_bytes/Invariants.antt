use Rattle.std.proofs.Common.{◌≡◌, ◌≤◌, ◌-◌, ◌+◌, ◌^◌}
use Rattle.copy_row.specs.Rows.{IsWritten}
use Rattle.copy_row.proofs.bytes.copy_bytes.Given as goal

abbrev pub invariant-loop-piece : goal.invariant-loop-piece
invariant-loop-piece g l = record {
  ready : g.A.Asker.asking.ready l.asker;
  same : g.F.Folder.tree l.host ≡ g.F.Folder.tree l.initial.host;
  faults : g.F.Folder.faults l.host ≡ g.F.Folder.faults l.initial.host;
  stops : g.A.Asker.asking.stops l.asker ≡ g.A.Asker.asking.stops l.initial.asker;
  far : l.place ≤ 2 ^ 63;
  written : IsWritten g.A.Asker.asking l.initial.asker l.asker (g.F.Folder.tree l.initial.host) l.at.host l.at.tree l.place l.initial.totals l.totals;
}

abbrev pub decreases-loop-piece : goal.decreases-loop-piece
decreases-loop-piece g l = 9223372036854775808 + 1 - l.place
