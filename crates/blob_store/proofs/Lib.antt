pub mod Laws
pub mod Standing
pub mod Calls
-- Handed on to crates above, which name their lemmas so and needn't list them.
pub use Rattle.data_tree.proofs as data_tree_lemmas
