pub mod Create
pub mod Info
pub mod Passwd
pub mod Migrate
pub mod Printing
pub mod CreateText
pub mod InfoText
pub mod PasswdText
pub mod MigrateText
-- Handed on to crates above, which name their words so and needn't list them.
pub use Rattle.session_laws.specs.mount as mount
pub use Rattle.mount_calls.specs as mount_calls
pub use Rattle.session_laws.specs.mount_core as mount_core
pub use Rattle.mount_calls.specs.mount_migrating as mount_migrating
pub use Rattle.session_laws.specs.mount_stores as mount_stores
pub use Rattle.session_laws.specs as session_laws
pub use Rattle.session_laws.specs.aes_gcm as aes_gcm
pub use Rattle.session_laws.specs.config_file as config_file
pub use Rattle.session_laws.specs.run_frame as run_frame
pub use Rattle.session_laws.specs.record_saver as record_saver
