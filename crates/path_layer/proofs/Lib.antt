pub mod Shows
mod Spared
mod Fits
-- Handed on to crates above, which name their lemmas so and needn't list them.
pub use Rattle.blob_store.proofs.data_tree_lemmas as data_tree_lemmas
pub use Rattle.path_contents.proofs.dir_entries_lemmas as dir_entries_lemmas
