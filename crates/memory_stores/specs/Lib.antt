pub mod Rows
pub mod Setting
pub mod BlobsRows
pub mod Followed
-- Handed on to crates above, which name their words so and needn't list them.
pub use Rattle.store_api.specs as store_api
