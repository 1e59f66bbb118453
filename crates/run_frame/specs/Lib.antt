pub mod Statuses
pub mod Passwords
-- Handed on to crates above, which name their words so and needn't list them.
pub use Rattle.session_lines.specs.answers as answers
pub use Rattle.mount_stores.specs.config_file as config_file
pub use Rattle.line_io.specs as line_io
pub use Rattle.mount_stores.specs as mount_stores
pub use Rattle.mount_stores.specs.redo_vault as redo_vault
pub use Rattle.session_lines.specs as session_lines
