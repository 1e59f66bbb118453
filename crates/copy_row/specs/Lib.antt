pub mod Rows
pub mod Reading
pub mod Reads
-- Handed on to crates above, which name their words so and needn't list them.
pub use Rattle.copy_laws.specs as copy_laws
pub use Rattle.copy_laws.specs.host_folder as host_folder
pub use Rattle.copy_laws.specs.store_api as store_api
