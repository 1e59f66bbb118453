pub mod Putting
pub mod Getting
pub mod Coming
pub mod Laws
-- Handed on to crates above, which name their words so and needn't list them.
pub use Rattle.copy_sessions.specs.answers as answers
pub use Rattle.copy_row.specs.copy_laws as copy_laws
pub use Rattle.copy_sessions.specs as copy_sessions
pub use Rattle.copy_row.specs.host_folder as host_folder
pub use Rattle.copy_sessions.specs.line_io as line_io
pub use Rattle.copy_row.specs as copy_row
pub use Rattle.copy_sessions.specs.script_text as script_text
pub use Rattle.copy_sessions.specs.session_lines as session_lines
pub use Rattle.copy_row.specs.store_api as store_api
