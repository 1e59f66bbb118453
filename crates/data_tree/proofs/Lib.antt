pub mod Ids
pub mod Levels
pub mod Loads
pub mod Forests
pub mod Gathering
pub mod Changes
pub mod Making
pub mod Counting
pub mod Anew
pub mod Puts
pub mod Leaving
pub mod Stored
pub mod Borders
pub mod OneTree
pub mod Heads
-- Handed on to crates above, which name their lemmas so and needn't list them.
pub use Rattle.data_nodes.proofs as data_nodes_lemmas
pub use Rattle.store_api.proofs as store_api_lemmas
