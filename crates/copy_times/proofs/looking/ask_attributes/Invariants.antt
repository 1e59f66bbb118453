use Rattle.std.proofs.Common.{◌≡◌, take}
use Rattle.std.specs.Prelude.{Ok}
use Rattle.copy_times.specs.Taking.{Sees, SaysLooked}
use Rattle.copy_times.proofs.looking.ask_attributes.Given as goal

abbrev pub invariant-loop-row : goal.invariant-loop-row
invariant-loop-row g l = record {
  ready : g.A.Asker.asking.ready l.asker;
  stops : g.A.Asker.asking.stops l.asker ≡ g.A.Asker.asking.stops l.fn.asker;
  sees : Sees g.A.Asker.asking l.fn.asker l.asker (SaysLooked l.path l.listed (take l.row-index l.listed)) (Ok l.rows.items);
}
