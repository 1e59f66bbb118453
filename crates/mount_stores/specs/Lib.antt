pub mod Tower
pub mod TowerLaws
pub mod Identities
pub mod Failing
pub mod Opening
pub mod Stores
pub mod Unforged
pub mod Drawing
pub mod Making
-- Handed on to crates above, which name their words so and needn't list them.
pub use Rattle.config_file.specs.aes_gcm as aes_gcm
pub use Rattle.integrity_store.specs as integrity_store
pub use Rattle.block_cache.specs as block_cache
pub use Rattle.config_file.specs as config_file
pub use Rattle.integrity_store.specs.block_versions as block_versions
pub use Rattle.integrity_store.specs.redo_vault as redo_vault
pub use Rattle.integrity_store.specs.sealed_store as sealed_store
pub use Rattle.record_saver.specs as record_saver
