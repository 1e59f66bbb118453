pub mod HostWord
pub mod RecordUse
pub mod OptionWords
-- Handed on to crates above, which name their words so and needn't list them.
pub use Rattle.real_outside.specs as real_outside
pub use Rattle.program_words.specs as program_words
