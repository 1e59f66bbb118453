-- blocks were only loaded, and the same ones are told
use Rattle.std.proofs.Common.{◌≡◌, map}
use Rattle.check_refused.specs.Surveys.{Surveys, ungiven_of}
use Rattle.check_refused.proofs.finding.explore_places.Given as goal

abbrev pub invariant-loop-number : goal.invariant-loop-number
invariant-loop-number g l = record {
  surveys : Surveys g.B.Blocks.meanings g.B.Blocks.holdings l.initial.store l.store;
  same : map ungiven_of l.ungiven.items ≡ map ungiven_of l.initial.ungiven.items;
}
