pub mod Owns
mod Following
mod Reading
mod Second
-- Handed on to crates above, which name their lemmas so and needn't list them.
pub use Rattle.session_lines.proofs.answers_lemmas as answers_lemmas
pub use Rattle.mount_stores.proofs as mount_stores_lemmas
