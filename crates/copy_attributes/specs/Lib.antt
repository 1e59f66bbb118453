pub mod Passes
pub mod Imports
pub mod Exports
pub mod Laws
-- Handed on to crates above, which name their words so and needn't list them.
pub use Rattle.copy_times.specs as copy_times
pub use Rattle.copy_times.specs.host_attributes as host_attributes
pub use Rattle.tree_copy.specs as tree_copy
