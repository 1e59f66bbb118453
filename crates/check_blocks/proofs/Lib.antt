pub mod Enduring
pub mod Readying
-- Handed on to crates above, which name their lemmas so and needn't list them.
pub use Rattle.mount.proofs.config_file_lemmas as config_file_lemmas
pub use Rattle.mount.proofs as mount_lemmas
pub use Rattle.mount.proofs.mount_stores_lemmas as mount_stores_lemmas
