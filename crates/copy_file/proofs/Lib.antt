pub mod Pieces
pub mod Putting
pub mod Getting
pub mod Leaving
pub mod Telling
pub mod Sessions
pub mod Faultless
-- Handed on to crates above, which name their lemmas so and needn't list them.
pub use Rattle.copy_sessions.proofs as copy_sessions_lemmas
pub use Rattle.copy_row.proofs.store_api_lemmas as store_api_lemmas
