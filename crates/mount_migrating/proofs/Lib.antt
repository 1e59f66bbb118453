pub mod Batches
pub mod NewFiles
pub mod Proceeding
pub mod Anew
pub mod Syncing
pub mod Least
pub mod Chains
pub mod Marking
pub mod Noticing
pub mod Drawing
pub mod Crowds
-- Handed on to crates above, which name their lemmas so and needn't list them.
pub use Rattle.mount_answering.proofs as mount_answering_lemmas
