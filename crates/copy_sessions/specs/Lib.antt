pub mod Fitting
pub mod Hosted
pub mod HostedLaws
pub mod Texts
pub mod Statuses
pub mod Coming
pub mod Laws
-- Handed on to crates above, which name their words so and needn't list them.
pub use Rattle.session_lines.specs.answers as answers
pub use Rattle.session_lines.specs.line_io as line_io
pub use Rattle.session_lines.specs.script_text as script_text
pub use Rattle.session_lines.specs as session_lines
