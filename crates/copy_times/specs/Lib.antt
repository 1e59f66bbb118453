pub mod Tours
pub mod Asking
pub mod Giving
pub mod Taking
pub mod Laws
-- Handed on to crates above, which name their words so and needn't list them.
pub use Rattle.host_attributes.specs as host_attributes
pub use Rattle.copy_row.specs.copy_laws as copy_laws
