pub mod Configs
pub mod Leasts
pub mod OneWrite
pub mod WriteOuts
pub mod Applying
pub mod BatchSoundness
pub mod Batches
pub mod Fronts
pub mod Lives
pub mod Sealed
pub mod Sorted
pub mod Waiting
pub mod Wholeness
-- Handed on to crates above, which name their lemmas so and needn't list them.
pub use Rattle.block_versions.proofs as block_versions_lemmas
pub use Rattle.store_api.proofs as store_api_lemmas
