use Rattle.std.specs.Prelude.{Ok}
use Rattle.check_rules.specs.store_outcome.Outcome.{Outcome}
use Rattle.check_rules.specs.store_api.Holdings.{Stays}
use Rattle.check_rules.specs.check_walk.Given.{IsLoad}
use Rattle.cryfs_check.specs.Places.{places_text}
use Rattle.cryfs_check.specs.Visits.{Visited}
use Rattle.cryfs_check.proofs.checking.visit_all.Given as goal

abbrev pub invariant-loop-number : goal.invariant-loop-number
invariant-loop-number g l = record {
  outcome : Outcome g.B.Blocks.meanings {T = Unit {0}} Unit l.initial.store l.store (Ok tt) (λ n y. Unit {0});
  stays : Stays g.B.Blocks.holdings l.initial.store l.store;
  visited : Visited (IsLoad g.B.Blocks.meanings g.B.Blocks.holdings g.B.Blocks.loads) (g.B.Blocks.holdings.payload l.initial.store) l.root.0 l.initial.store l.store l.initial.marks l.marks (places_text l.places.items) l.number;
}
