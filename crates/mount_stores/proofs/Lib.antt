pub mod Quiet
pub mod Reading
pub mod Found
pub mod Emptied
pub mod Fresh
-- Handed on to crates above, which name their lemmas so and needn't list them.
pub use Rattle.integrity_store.proofs as integrity_store_lemmas
pub use Rattle.config_file.proofs as config_file_lemmas
