pub mod Joining
pub mod Chains
pub mod Files
pub mod Links
pub mod Filling
pub mod ByKind
pub mod Served
pub mod Pouring
pub mod Exports
-- Handed on to crates above, which name their lemmas so and needn't list them.
pub use Rattle.copy_laws.proofs as copy_laws_lemmas
pub use Rattle.copy_laws.proofs.host_folder_lemmas as host_folder_lemmas
pub use Rattle.copy_laws.proofs.store_api_lemmas as store_api_lemmas
