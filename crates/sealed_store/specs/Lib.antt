pub mod BlockFiles
pub mod Drafts
pub mod Stores
pub mod Sums
-- Handed on to crates above, which name their words so and needn't list them.
pub use Rattle.redo_vault.specs as redo_vault
