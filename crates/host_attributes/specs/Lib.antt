pub mod Attributes
-- Handed on to crates above, which name their words so and needn't list them.
pub use Rattle.host_folder.specs as host_folder
