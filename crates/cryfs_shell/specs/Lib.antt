pub mod Kinds
pub mod Streams
pub mod Copies
pub mod Clauses
pub mod Doing
pub mod History
-- Handed on to crates above, which name their words so and needn't list them.
pub use Rattle.check_runs.specs as check_runs
pub use Rattle.check_runs.specs.setup_runs as setup_runs
pub use Rattle.check_runs.specs.mount as mount
pub use Rattle.check_runs.specs.mount_calls as mount_calls
pub use Rattle.check_runs.specs.mount_core as mount_core
pub use Rattle.check_runs.specs.mount_migrating as mount_migrating
pub use Rattle.check_runs.specs.mount_stores as mount_stores
pub use Rattle.session_laws.specs as session_laws
pub use Rattle.copy_runs.specs.shell_runs as shell_runs
pub use Rattle.trial_runs.specs.answers as answers
pub use Rattle.session_laws.specs.config_file as config_file
pub use Rattle.session_laws.specs.block_versions as block_versions
pub use Rattle.trial_runs.specs.line_io as line_io
pub use Rattle.session_laws.specs.run_frame as run_frame
pub use Rattle.trial_runs.specs.session_lines as session_lines
pub use Rattle.program_words.specs as program_words
