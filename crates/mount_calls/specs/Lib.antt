pub mod Condemning
pub mod Making
pub mod Migrating
pub mod Sealing
-- Handed on to crates above, which name their words so and needn't list them.
pub use Rattle.mount_migrating.specs as mount_migrating
pub use Rattle.mount_opening.specs.path_layer as path_layer
