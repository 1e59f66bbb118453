pub mod Formed
pub mod Owning
pub mod Files
-- Handed on to crates above, which name their lemmas so and needn't list them.
pub use Rattle.copy_file.proofs.copy_sessions_lemmas as copy_sessions_lemmas
pub use Rattle.copy_file.proofs as copy_file_lemmas
