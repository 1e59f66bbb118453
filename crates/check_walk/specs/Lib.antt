pub mod Fronts
pub mod Marks
pub mod Given
pub mod Needs
pub mod Walks
pub mod Halts
-- Handed on to crates above, which name their words so and needn't list them.
pub use Rattle.data_tree.specs.data_nodes as data_nodes
pub use Rattle.data_tree.specs as data_tree
pub use Rattle.data_tree.specs.store_outcome as store_outcome
pub use Rattle.data_tree.specs.store_api as store_api
