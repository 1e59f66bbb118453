pub mod Tower
pub mod Representing
pub mod Opening
pub mod Making
pub mod Formats
pub mod Mounts
pub mod Telling
pub mod Answering
pub mod Attaching
pub mod Serving
pub mod Sealing
pub mod NamingLaws
pub mod SealingLaws
pub mod Owning
pub mod OwningLaws
-- Handed on to crates above, which name their words so and needn't list them.
pub use Rattle.mount_stores.specs.aes_gcm as aes_gcm
pub use Rattle.mount_stores.specs.integrity_store as integrity_store
pub use Rattle.mount_core.specs.blob_api as blob_api
pub use Rattle.mount_core.specs.blob_store as blob_store
pub use Rattle.mount_stores.specs.block_cache as block_cache
pub use Rattle.mount_stores.specs.config_file as config_file
pub use Rattle.mount_core.specs.data_nodes as data_nodes
pub use Rattle.mount_core.specs.dir_entries as dir_entries
pub use Rattle.mount_core.specs.path_walks as path_walks
pub use Rattle.mount_core.specs.fs_blobs as fs_blobs
pub use Rattle.mount_stores.specs.block_versions as block_versions
pub use Rattle.local_state.specs as local_state
pub use Rattle.mount_core.specs as mount_core
pub use Rattle.mount_stores.specs as mount_stores
pub use Rattle.store_api.specs.store_outcome as store_outcome
pub use Rattle.mount_stores.specs.sealed_store as sealed_store
pub use Rattle.mount_stores.specs.record_saver as record_saver
pub use Rattle.store_api.specs as store_api
pub use Rattle.mount_core.specs.path_layer as path_layer
