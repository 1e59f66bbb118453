mod Fronts
pub mod Judging
pub mod Records
pub mod ConfigReads
pub mod Fetches
pub mod Freshness
pub mod HeldBlocksFronts
pub mod Loading
pub mod Reopening
pub mod Untouched
-- Handed on to crates above, which name their lemmas so and needn't list them.
pub use Rattle.store_api.proofs as store_api_lemmas
