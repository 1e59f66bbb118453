-- the blocks so far were surveyed
use Rattle.std.proofs.Common.{◌≡◌, ◌≤◌, map, take}
use Rattle.std.specs.Prelude.{Ok}
use Rattle.check_walk.specs.data_nodes.Layout.{ids_of}
use Rattle.check_refused.specs.Surveys.{Counts, IsSurvey, Surveys, refusals, ungiven_of}
use Rattle.check_refused.proofs.survey.survey_blocks.Given as goal

abbrev pub invariant-loop-id : goal.invariant-loop-id
invariant-loop-id g l = record {
  surveys : Surveys g.B.Blocks.meanings g.B.Blocks.holdings l.initial.store l.store;
  survey : IsSurvey g.B.Blocks.loads (ids_of (take l.id-index l.live)) l.initial.store l.store (map ungiven_of l.ungiven.items);
  counts : Counts (g.B.Blocks.meanings.faults l.initial.store) (g.B.Blocks.meanings.faults l.store) (map ungiven_of l.ungiven.items) (Ok tt);
  calm : g.B.Blocks.meanings.sound l.initial.store → g.B.Blocks.meanings.lies l.store ≤ g.B.Blocks.meanings.lies l.initial.store → refusals (map ungiven_of l.ungiven.items) ≡ 0;
}
