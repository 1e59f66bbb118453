-- What a tower of stores keeps through loads.
use Rattle.std.specs.Prelude.{ℕ, List}
use Rattle.std.specs.declared.option.Option.{Option}
use Rattle.mount.specs.integrity_store.Applied.{applied_by}
use Rattle.mount.specs.block_cache.Through.{enduring_past}
use Rattle.mount.specs.block_versions.Standing.{records}
use Rattle.mount.specs.integrity_store.EnduringLaws.{enduring_by}
use Rattle.mount.specs.mount_stores.Tower.{Cached, sealed_held, sealed_trace, sealed_meanings, sealed_holdings, sealed_durables, tower_meanings, tower_holdings, tower_durables}
use Rattle.outside.specs.Trace.{Call}
use Rattle.mount.specs.sealed_store.Stores.{IsIntact, block_size_of}
use Rattle.mount.specs.store_api.Content.{Changes}
use Rattle.mount.specs.store_api.Durables.{Enduring}

abbrev pub tower_applied : {V : Type 0} → (V → Option (List Call)) → Cached V → Cached V → Changes → Type 0
tower_applied trace a b changes = applied_by sealed_held (sealed_trace trace) a.store b.store changes

pub tower_enduring : {V : Type 0} (trace : V → Option (List Call)) (faults : V → ℕ) → Enduring (tower_meanings trace faults) (tower_holdings trace) (tower_applied trace) (tower_durables trace) records
tower_enduring trace faults =
    enduring_past (λ c. c.store) (λ c. c.cached) (sealed_meanings trace faults) (sealed_holdings trace) (applied_by sealed_held (sealed_trace trace)) (sealed_durables trace) records
    (enduring_by sealed_held (sealed_trace trace) (λ s. faults s.sealed.vault.vault) (λ s. IsIntact (block_size_of s.sealed) 16))
