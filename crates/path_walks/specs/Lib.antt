pub mod Sights
pub mod Reaching
pub mod Replies
pub mod Nodes
pub mod Shows
pub mod Midst
pub mod Showing
pub mod Entries
pub mod Touching
-- Handed on to crates above, which name their words so and needn't list them.
pub use Rattle.dir_blob.specs.blob_api as blob_api
pub use Rattle.dir_blob.specs as dir_blob
pub use Rattle.dir_blob.specs.dir_entries as dir_entries
pub use Rattle.dir_blob.specs.fs_blobs as fs_blobs
pub use Rattle.dir_blob.specs.store_outcome as store_outcome
pub use Rattle.fs_model.specs as fs_model
