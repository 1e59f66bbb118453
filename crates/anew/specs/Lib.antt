pub mod Begun
pub mod Writing
-- Handed on to crates above, which name their words so and needn't list them.
pub use Rattle.integrity_store.specs as integrity_store
pub use Rattle.integrity_store.specs.block_versions as block_versions
