pub mod Listed
pub mod Attributes
pub mod Places
pub mod Replies
pub mod Sparing
-- Handed on to crates above, which name their words so and needn't list them.
pub use Rattle.path_walks.specs.dir_entries as dir_entries
pub use Rattle.path_walks.specs as path_walks
pub use Rattle.path_walks.specs.fs_blobs as fs_blobs
pub use Rattle.path_walks.specs.store_outcome as store_outcome
