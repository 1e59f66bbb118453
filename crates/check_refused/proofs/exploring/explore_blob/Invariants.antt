-- blocks were only loaded, and the same ones are told
use Rattle.std.proofs.Common.{◌≡◌, map}
use Rattle.check_refused.specs.Surveys.{Surveys, ungiven_of}
use Rattle.check_refused.proofs.exploring.explore_blob.Given as goal

abbrev pub invariant-loop-turn : goal.invariant-loop-turn
invariant-loop-turn g l = record {
  surveys : Surveys g.B.Blocks.meanings g.B.Blocks.holdings l.initial.store l.store;
  same : map ungiven_of l.ungiven.items ≡ map ungiven_of l.fn.ungiven.items;
}
