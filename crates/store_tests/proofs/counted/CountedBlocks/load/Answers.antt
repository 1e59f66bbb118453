use Rattle.block_cache.specs.store_outcome.Lift.{lifted_with}
use Rattle.store_tests.specs.declared.counted.Counted.{Counted}
use Rattle.store_tests.proofs.counted.CountedBlocks.load.Goals as goal

pub returns-clause-outcome : goal.returns-clause-outcome
returns-clause-outcome g c =
    let after : Counted g.row.S.Denot = record { store = c.load.new.self; loads = c.saturating_add-self.result } in
    lifted_with (λ (d : Counted g.row.S.Denot). d.store) (λ (d : Counted g.row.S.Denot). Unit {0}) (λ (d : Counted g.row.S.Denot). Unit {0}) c.args.self.now after tt (λ _ _ _. tt) c.load.ensures.outcome
