pub mod Printing
pub mod Texts
pub mod Strangers
pub mod Telling
pub mod Refusals
pub mod Surveys
-- Handed on to crates above, which name their words so and needn't list them.
pub use Rattle.copy_sessions.specs.line_io as line_io
pub use Rattle.copy_sessions.specs.session_lines as session_lines
