pub mod Rows
-- Handed on to crates above, which name their lemmas so and needn't list them.
pub use Rattle.host_folder.proofs as host_folder_lemmas
