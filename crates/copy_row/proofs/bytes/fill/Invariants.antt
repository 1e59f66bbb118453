use Rattle.std.proofs.Common.{◌≡◌, ◌≤◌, ◌<◌, ◌-◌, ◌+◌, ◌^◌, length}
use Rattle.std.specs.Prelude.{IfSome}
use Rattle.copy_row.specs.Reading.{IsFilled}
use Rattle.copy_row.proofs.bytes.fill.Given as goal

abbrev pub invariant-loop-len : goal.invariant-loop-len
invariant-loop-len g l = record {
  same : g.F.Folder.tree l.host ≡ g.F.Folder.tree l.initial.host;
  faults : g.F.Folder.faults l.host ≡ g.F.Folder.faults l.initial.host;
  room : l.len ≤ length l.piece;
  far : 0 < l.len → l.from + l.len ≤ 2 ^ 63;
  told : 0 < l.len → IfSome (g.F.Folder.tree l.initial.host) (λ t. IsFilled t l.path l.from l.len l.piece);
}

abbrev pub decreases-loop-len : goal.decreases-loop-len
decreases-loop-len g l = length l.piece - l.len
