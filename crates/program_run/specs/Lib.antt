pub mod Program
pub mod Written
pub mod Calls
pub mod Lists
pub mod Formats
-- Handed on to crates above, which name their words so and needn't list them.
pub use Rattle.cryfs_shell.specs as cryfs_shell
pub use Rattle.cryfs_shell.specs.mount_core as mount_core
pub use Rattle.cryfs_shell.specs.session_laws as session_laws
pub use Rattle.cryfs_shell.specs.shell_runs as shell_runs
pub use Rattle.cryfs_shell.specs.answers as answers
pub use Rattle.cryfs_shell.specs.config_file as config_file
pub use Rattle.cryfs_shell.specs.line_io as line_io
pub use Rattle.cryfs_shell.specs.session_lines as session_lines
