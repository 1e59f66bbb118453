pub mod Directories
-- Handed on to crates above, which name their words so and needn't list them.
pub use Rattle.fs_blobs.specs.blob_api as blob_api
pub use Rattle.dir_entries.specs as dir_entries
pub use Rattle.fs_blobs.specs as fs_blobs
pub use Rattle.fs_blobs.specs.store_outcome as store_outcome
