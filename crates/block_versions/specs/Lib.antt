pub mod BlockRecords
pub mod RecordLaws
pub mod VerdictLaws
pub mod Verdicts
pub mod AlarmLaws
pub mod Forgeries
pub mod ForgeryLaws
pub mod Held
pub mod Loads
pub mod ReadLaws
pub mod Reads
pub mod Soundness
pub mod Standing
pub mod StoreLaws
pub mod Stores
pub mod Views
-- Handed on to crates above, which name their words so and needn't list them.
pub use Rattle.sealed_store.specs.redo_vault as redo_vault
pub use Rattle.sealed_store.specs as sealed_store
pub use Rattle.local_state.specs as local_state
pub use Rattle.store_api.specs.store_outcome as store_outcome
pub use Rattle.store_api.specs as store_api
