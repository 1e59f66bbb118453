pub mod Reached
pub mod Flaws
pub mod Certificates
pub mod Marked
-- Handed on to crates above, which name their words so and needn't list them.
pub use Rattle.path_walks.specs.blob_api as blob_api
pub use Rattle.check_walk.specs as check_walk
pub use Rattle.check_walk.specs.data_nodes as data_nodes
pub use Rattle.check_walk.specs.data_tree as data_tree
pub use Rattle.path_walks.specs.dir_entries as dir_entries
pub use Rattle.path_walks.specs as path_walks
pub use Rattle.path_walks.specs.fs_blobs as fs_blobs
pub use Rattle.check_walk.specs.store_outcome as store_outcome
pub use Rattle.check_walk.specs.store_api as store_api
