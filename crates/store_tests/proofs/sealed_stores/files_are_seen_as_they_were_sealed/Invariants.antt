use Rattle.integrity_store.specs.sealed_store.Stores.{IsIntact, block_size_of}
use Rattle.store_tests.proofs.sealed_stores.files_are_seen_as_they_were_sealed.Given as goal

abbrev pub invariant-loop-line : goal.invariant-loop-line
invariant-loop-line l = IsIntact (block_size_of l.store) 16
