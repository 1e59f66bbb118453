pub mod Premises
pub mod Sessions
pub mod Mounts
pub mod Setups
pub mod Checks
pub mod Migrations
pub mod Calls
pub mod OneTree
pub mod Honest
pub mod Made
pub mod Transcript
-- Handed on to crates above, which name their words so and needn't list them.
pub use Rattle.session_laws.specs as session_laws
pub use Rattle.session_laws.specs.local_state as local_state
pub use Rattle.copy_file.specs.script_text as script_text
pub use Rattle.shell_runs.specs.record_saver as record_saver
pub use Rattle.copy_file.specs.store_api as store_api
pub use Rattle.memory_outside.specs as memory_outside
