mod Premises
mod Configuration
mod Passwords
mod Opening
mod Serving
mod Mounts
mod Setups
mod Checks
mod Migrations
mod MountCalls
pub mod Paths
pub mod Records
mod Listing
pub mod Forms
pub mod Outputs
pub mod Texts
pub mod Whole
-- Handed on to crates above, which name their lemmas so and needn't list them.
pub use Rattle.copy_file.proofs.store_api_lemmas as store_api_lemmas
