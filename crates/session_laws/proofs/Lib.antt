pub mod Rising
pub mod Still
pub mod Keeping
mod Joining
pub mod Passes
pub mod Formats
pub mod Whole
pub mod Unopened
pub mod Examined
pub mod Drawing
pub mod Looked
mod Following
pub mod Configuration
mod Honest
mod Refused
mod Forged
-- Handed on to crates above, which name their lemmas so and needn't list them.
pub use Rattle.mount.proofs.config_file_lemmas as config_file_lemmas
pub use Rattle.mount.proofs as mount_lemmas
pub use Rattle.mount.proofs.mount_core_lemmas as mount_core_lemmas
pub use Rattle.run_frame.proofs.mount_stores_lemmas as mount_stores_lemmas
pub use Rattle.run_frame.proofs as run_frame_lemmas
