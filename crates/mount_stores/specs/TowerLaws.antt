-- The laws of a tower's meanings.
use Rattle.std.specs.Prelude.{ℕ, List}
use Rattle.std.specs.declared.option.Option.{Option}
use Rattle.block_cache.specs.Through.{lawful_past}
use Rattle.integrity_store.specs.block_versions.StoreLaws.{lawful_by}
use Rattle.block_cache.specs.store_outcome.Meanings.{Lawful}
use Rattle.outside.specs.Trace.{Call}
use Rattle.integrity_store.specs.sealed_store.Stores.{IsIntact, block_size_of}
use Rattle.mount_stores.specs.Tower.{sealed_held, sealed_trace, sealed_meanings, sealed_holdings, tower_meanings}

pub tower_lawful : {V : Type 0} (trace : V → Option (List Call)) (faults : V → ℕ) → Lawful (tower_meanings trace faults)
tower_lawful trace faults =
    lawful_past (λ c. c.store) (λ c. c.cached) (sealed_meanings trace faults) (sealed_holdings trace)
    (lawful_by sealed_held (sealed_trace trace) (λ s. faults s.sealed.vault.vault) (λ s. IsIntact (block_size_of s.sealed) 16))
