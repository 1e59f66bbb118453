pub mod Trees
pub mod Roots
pub mod Stored
pub mod Needs
pub mod Leaving
pub mod Border
-- Handed on to crates above, which name their words so and needn't list them.
pub use Rattle.data_nodes.specs as data_nodes
pub use Rattle.store_api.specs.store_outcome as store_outcome
pub use Rattle.store_api.specs as store_api
