pub mod Migrating
pub mod Noticing
pub mod Drawing
-- Handed on to crates above, which name their words so and needn't list them.
pub use Rattle.mount_answering.specs as mount_answering
pub use Rattle.mount_answering.specs.script_text as script_text
pub use Rattle.mount_answering.specs.record_saver as record_saver
