pub mod OneTree
pub mod Pieces
pub mod Nodes
pub mod Ways
pub mod Standing
pub mod Refuting
pub mod Walking
pub mod Owning
-- Handed on to crates above, which name their lemmas so and needn't list them.
pub use Rattle.check_walk.proofs as check_walk_lemmas
pub use Rattle.check_walk.proofs.data_tree_lemmas as data_tree_lemmas
pub use Rattle.path_walks.proofs.fs_blobs_lemmas as fs_blobs_lemmas
pub use Rattle.path_walks.proofs as path_walks_lemmas
pub use Rattle.check_walk.proofs.store_api_lemmas as store_api_lemmas
