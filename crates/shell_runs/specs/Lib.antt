pub mod Asking
pub mod Hosts
pub mod Mounting
pub mod Sessions
-- Handed on to crates above, which name their words so and needn't list them.
pub use Rattle.session_laws.specs.mount as mount
pub use Rattle.session_laws.specs.mount_core as mount_core
pub use Rattle.session_laws.specs.run_frame as run_frame
pub use Rattle.session_laws.specs as session_laws
pub use Rattle.session_laws.specs.record_saver as record_saver
