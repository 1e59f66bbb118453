pub mod Plain
pub mod Lawful
pub mod Runs
-- Handed on to crates above, which name their words so and needn't list them.
pub use Rattle.answers.specs as answers
pub use Rattle.session_lines.specs.line_io as line_io
pub use Rattle.session_lines.specs as session_lines
