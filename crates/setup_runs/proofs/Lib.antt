pub mod Beginning
mod Closing
mod Telling
mod Changing
mod Creating
pub mod Ending
mod Anew
mod Drawing
mod Sealing
mod Short
-- Handed on to crates above, which name their lemmas so and needn't list them.
pub use Rattle.session_laws.proofs.mount_lemmas as mount_lemmas
pub use Rattle.mount_calls.proofs as mount_calls_lemmas
pub use Rattle.session_laws.proofs.mount_core_lemmas as mount_core_lemmas
pub use Rattle.session_laws.proofs.mount_stores_lemmas as mount_stores_lemmas
pub use Rattle.session_laws.proofs as session_laws_lemmas
pub use Rattle.mount_calls.proofs.mount_answering_lemmas as mount_answering_lemmas
