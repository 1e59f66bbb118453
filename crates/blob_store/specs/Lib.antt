pub mod OneMap
pub mod Meanings
-- Handed on to crates above, which name their words so and needn't list them.
pub use Rattle.blob_api.specs as blob_api
pub use Rattle.data_tree.specs.data_nodes as data_nodes
pub use Rattle.data_tree.specs as data_tree
pub use Rattle.store_api.specs as store_api
