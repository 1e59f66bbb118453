pub mod Sorted
pub mod Rows
pub mod Formed
pub mod Places
pub mod Moves
-- Handed on to crates above, which name their words so and needn't list them.
pub use Rattle.fs_model.specs as fs_model
