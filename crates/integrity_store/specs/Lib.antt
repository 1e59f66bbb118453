pub mod EnduringLaws
pub mod Made
pub mod Views
pub mod WaitingLaws
pub mod Applied
pub mod Draws
pub mod Raising
pub mod Sealing
-- Handed on to crates above, which name their words so and needn't list them.
pub use Rattle.block_versions.specs as block_versions
pub use Rattle.block_versions.specs.redo_vault as redo_vault
pub use Rattle.block_versions.specs.sealed_store as sealed_store
pub use Rattle.block_versions.specs.store_outcome as store_outcome
pub use Rattle.store_api.specs as store_api
