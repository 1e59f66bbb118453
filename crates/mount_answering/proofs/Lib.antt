pub mod Synced
pub mod Lines
mod Asking
mod Formats
mod Versions
mod Loads
pub mod Quiet
mod Stores
mod Closing
mod Keeping
mod Draws
-- Handed on to crates above, which name their lemmas so and needn't list them.
pub use Rattle.mount_core.proofs.data_tree_lemmas as data_tree_lemmas
pub use Rattle.mount_core.proofs as mount_core_lemmas
pub use Rattle.mount_core.proofs.store_api_lemmas as store_api_lemmas
pub use Rattle.mount_core.proofs.path_layer_lemmas as path_layer_lemmas
