pub mod Counting
pub mod Looked
pub mod OneReading
pub mod Running
pub mod Short
-- Handed on to crates above, which name their lemmas so and needn't list them.
pub use Rattle.script_text.proofs as script_text_lemmas
