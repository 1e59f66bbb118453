use Rattle.store_tests.proofs.block_caches.play.Given as goal

abbrev pub invariant-loop-step : goal.invariant-loop-step
invariant-loop-step g l = g.S.Blocks.meanings.intact l.store
