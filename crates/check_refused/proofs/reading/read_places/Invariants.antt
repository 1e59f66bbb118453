-- blocks were only loaded, and each place stands behind its directory's
use Rattle.check_refused.specs.Surveys.{Surveys}
use Rattle.cryfs_check.specs.Places.{AreBehind, places_text}
use Rattle.check_refused.proofs.reading.read_places.Given as goal

abbrev pub invariant-loop-number : goal.invariant-loop-number
invariant-loop-number g l = record {
  surveys : Surveys g.B.Blocks.meanings g.B.Blocks.holdings l.fn.store l.store;
  behind : AreBehind (places_text l.places.items);
}
