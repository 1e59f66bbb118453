pub mod Judging
pub mod Examining
pub mod Running
pub mod Surveying
pub mod SurveyRuns
pub mod Reads
-- Handed on to crates above, which name their words so and needn't list them.
pub use Rattle.setup_runs.specs as setup_runs
pub use Rattle.setup_runs.specs.mount as mount
pub use Rattle.setup_runs.specs.mount_calls as mount_calls
pub use Rattle.setup_runs.specs.mount_core as mount_core
pub use Rattle.setup_runs.specs.mount_migrating as mount_migrating
pub use Rattle.setup_runs.specs.mount_stores as mount_stores
pub use Rattle.setup_runs.specs.session_laws as session_laws
pub use Rattle.check_refused.specs.check_rules as check_rules
pub use Rattle.check_texts.specs as check_texts
pub use Rattle.check_refused.specs.cryfs_check as cryfs_check
pub use Rattle.check_walk.specs as check_walk
pub use Rattle.check_walk.specs.data_nodes as data_nodes
pub use Rattle.block_versions.specs as block_versions
pub use Rattle.block_versions.specs.local_state as local_state
pub use Rattle.check_walk.specs.store_outcome as store_outcome
pub use Rattle.block_versions.specs.store_api as store_api
