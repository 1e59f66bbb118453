pub mod Pieces
pub mod Touching
pub mod Steps
pub mod Merging
pub mod Orders
pub mod Walking
pub mod Ending
pub mod Asking
pub mod Cutting
pub mod Copying
pub mod Below
pub mod Exported
-- Handed on to crates above, which name their lemmas so and needn't list them.
pub use Rattle.host_folder.proofs as host_folder_lemmas
pub use Rattle.store_api.proofs as store_api_lemmas
