pub mod Asking
pub mod Calls
pub mod Lines
pub mod Reading
pub mod Streams
-- Handed on to crates above, which name their words so and needn't list them.
pub use Rattle.script_text.specs as script_text
