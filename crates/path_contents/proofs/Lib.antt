pub mod Setting
pub mod Folder
pub mod Blobs
pub mod Seen
pub mod Found
pub mod Steps
pub mod Ends
pub mod Files
pub mod Spared
-- Handed on to crates above, which name their lemmas so and needn't list them.
pub use Rattle.path_walks.proofs.dir_entries_lemmas as dir_entries_lemmas
pub use Rattle.path_walks.proofs as path_walks_lemmas
