pub mod Causes
pub mod Answering
pub mod Lawful
pub mod Resting
pub mod Passing
pub mod Turns
pub mod Runs
pub mod Coming
pub mod Openings
pub mod Drawing
pub mod Histories
pub mod Forgeries
-- Handed on to crates above, which name their words so and needn't list them.
pub use Rattle.mount.specs.aes_gcm as aes_gcm
pub use Rattle.run_frame.specs.answers as answers
pub use Rattle.mount.specs.config_file as config_file
pub use Rattle.mount.specs.block_versions as block_versions
pub use Rattle.mount.specs.integrity_store as integrity_store
pub use Rattle.run_frame.specs.line_io as line_io
pub use Rattle.mount.specs.local_state as local_state
pub use Rattle.mount.specs as mount
pub use Rattle.mount.specs.mount_core as mount_core
pub use Rattle.run_frame.specs.mount_stores as mount_stores
pub use Rattle.run_frame.specs as run_frame
pub use Rattle.run_frame.specs.redo_vault as redo_vault
pub use Rattle.run_frame.specs.session_lines as session_lines
pub use Rattle.mount.specs.record_saver as record_saver
pub use Rattle.mount.specs.store_api as store_api
