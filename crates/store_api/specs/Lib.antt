pub mod Applying
pub mod Content
pub mod Draws
pub mod Holdings
pub mod Ids
pub mod Durables
pub mod Fronts
pub mod Leaving
pub mod Lists
pub mod Loads
pub mod Overlay
pub mod Passing
pub mod Txs
pub mod Changes
pub mod Entries
-- Handed on to crates above, which name their words so and needn't list them.
pub use Rattle.store_outcome.specs as store_outcome
