use Rattle.check_tests.proofs.stores.put_all.Given as goal

abbrev pub invariant-loop-id : goal.invariant-loop-id
invariant-loop-id g l = g.S.Blocks.meanings.intact l.store
