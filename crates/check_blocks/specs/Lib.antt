pub mod Examined
pub mod ExaminedLaws
-- Handed on to crates above, which name their words so and needn't list them.
pub use Rattle.mount.specs.aes_gcm as aes_gcm
pub use Rattle.mount.specs.integrity_store as integrity_store
pub use Rattle.mount.specs.config_file as config_file
pub use Rattle.mount.specs.block_versions as block_versions
pub use Rattle.mount.specs as mount
pub use Rattle.mount.specs.mount_stores as mount_stores
pub use Rattle.mount.specs.sealed_store as sealed_store
