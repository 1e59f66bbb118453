pub mod Headers
pub mod Reading
pub mod Blobs
-- Handed on to crates above, which name their words so and needn't list them.
pub use Rattle.blob_api.specs as blob_api
pub use Rattle.blob_api.specs.store_outcome as store_outcome
