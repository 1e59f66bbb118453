pub mod Performing
pub mod Replies
pub mod Showing
pub mod Sparing
-- Handed on to crates above, which name their words so and needn't list them.
pub use Rattle.blob_store.specs.blob_api as blob_api
pub use Rattle.blob_store.specs as blob_store
pub use Rattle.blob_store.specs.data_nodes as data_nodes
pub use Rattle.blob_store.specs.data_tree as data_tree
pub use Rattle.path_contents.specs.dir_entries as dir_entries
pub use Rattle.path_contents.specs.path_walks as path_walks
pub use Rattle.path_contents.specs.fs_blobs as fs_blobs
