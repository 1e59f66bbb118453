pub mod Rows
pub mod Finding
pub mod Reads
pub mod Stores
pub mod Views
pub mod ReadLaws
pub mod StoreLaws
pub mod Fetching
pub mod Searching
-- Handed on to crates above, which name their words so and needn't list them.
pub use Rattle.block_versions.specs as block_versions
pub use Rattle.block_versions.specs.sealed_store as sealed_store
pub use Rattle.block_versions.specs.store_outcome as store_outcome
pub use Rattle.store_api.specs as store_api
