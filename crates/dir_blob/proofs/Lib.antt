pub mod Needs
pub mod Splices
pub mod Renamed
-- Handed on to crates above, which name their lemmas so and needn't list them.
pub use Rattle.dir_entries.proofs as dir_entries_lemmas
pub use Rattle.fs_blobs.proofs as fs_blobs_lemmas
