pub mod Parts
pub mod Gathering
pub mod Lasts
pub mod Anew
-- Handed on to crates above, which name their lemmas so and needn't list them.
pub use Rattle.data_tree.proofs.data_nodes_lemmas as data_nodes_lemmas
pub use Rattle.data_tree.proofs as data_tree_lemmas
