pub mod Asking
pub mod Driven
-- Handed on to crates above, which name their words so and needn't list them.
pub use Rattle.answers.specs as answers
pub use Rattle.line_io.specs as line_io
pub use Rattle.answers.specs.script_text as script_text
