pub mod Saving
-- Handed on to crates above, which name their words so and needn't list them.
pub use Rattle.local_state.specs as local_state
pub use Rattle.store_api.specs.store_outcome as store_outcome
pub use Rattle.store_api.specs as store_api
