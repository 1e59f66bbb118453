pub mod Levels
pub mod Copies
pub mod Exports
-- Handed on to crates above, which name their words so and needn't list them.
pub use Rattle.copy_row.specs.copy_laws as copy_laws
pub use Rattle.copy_row.specs.host_folder as host_folder
pub use Rattle.copy_row.specs as copy_row
