-- The tower: a cache over a store of blocks over a directory, sealed by a configuration's cipher. What its quotes compute to, by the directory's meanings.
use Rattle.std.specs.Prelude.{ℕ, List}
use Rattle.std.specs.declared.option.Option.{Option}
use Rattle.outside.specs.Trace.{Call}
use Rattle.block_cache.specs.store_outcome.Meanings.{Meanings}
use Rattle.integrity_store.specs.sealed_store.Stores.{IsIntact, block_size_of}
use Rattle.block_cache.specs.store_api.Holdings.{Holdings}
use Rattle.block_cache.specs.store_api.Durables.{Durables}
use Rattle.integrity_store.specs.declared.store.IntegrityStore.{IntegrityStore}
use Rattle.integrity_store.specs.block_versions.Held.{Held}
use Rattle.integrity_store.specs.block_versions.Standing.{durables_by}
use Rattle.integrity_store.specs.block_versions.Stores.{meanings_by, holdings_by}
use Rattle.integrity_store.specs.Views.{held_by}
use Rattle.block_cache.specs.declared.cache.BlockCache.{BlockCache}
use Rattle.block_cache.specs.Through.{meanings_past, holdings_past, durables_past}
use Rattle.config_file.specs.declared.config.Cipher.{Cipher}
use Rattle.config_file.specs.aes_gcm.Gcm.{opened_of}

-- ---- sealed blocks

abbrev pub sealed_held : {V : Type 0} → IntegrityStore V Cipher → Held
sealed_held s = held_by (λ cipher key extra text. opened_of key extra text) s

abbrev pub sealed_trace : {V : Type 0} → (V → Option (List Call)) → IntegrityStore V Cipher → Option (List Call)
sealed_trace trace s = trace s.sealed.vault.vault

abbrev pub sealed_meanings : {V : Type 0} → (V → Option (List Call)) → (V → ℕ) → Meanings (IntegrityStore V Cipher)
sealed_meanings trace faults = meanings_by sealed_held (sealed_trace trace) (λ s. faults s.sealed.vault.vault) (λ s. IsIntact (block_size_of s.sealed) 16)

abbrev pub sealed_holdings : {V : Type 0} → (V → Option (List Call)) → Holdings (IntegrityStore V Cipher)
sealed_holdings trace = holdings_by sealed_held (sealed_trace trace)

abbrev pub sealed_durables : {V : Type 0} → (V → Option (List Call)) → Durables (IntegrityStore V Cipher)
sealed_durables trace = durables_by sealed_held (sealed_trace trace)

-- ---- the same through a cache

abbrev pub Cached : Type 0 → Type 0
Cached V = BlockCache (IntegrityStore V Cipher)

abbrev pub held_in : {V : Type 0} → Cached V → Held
held_in c = sealed_held c.store

abbrev pub vault_in : {V : Type 0} → Cached V → V
vault_in c = c.store.sealed.vault.vault

abbrev pub trace_in : {V : Type 0} → (V → Option (List Call)) → Cached V → Option (List Call)
trace_in trace c = trace (vault_in c)

abbrev pub tower_meanings : {V : Type 0} → (V → Option (List Call)) → (V → ℕ) → Meanings (Cached V)
tower_meanings trace faults = meanings_past (λ c. c.store) (λ c. c.cached) (sealed_meanings trace faults) (sealed_holdings trace)

abbrev pub tower_holdings : {V : Type 0} → (V → Option (List Call)) → Holdings (Cached V)
tower_holdings trace = holdings_past (λ c. c.store) (sealed_holdings trace)

abbrev pub tower_durables : {V : Type 0} → (V → Option (List Call)) → Durables (Cached V)
tower_durables trace = durables_past (λ c. c.store) (sealed_durables trace)
