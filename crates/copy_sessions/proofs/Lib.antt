pub mod Following
pub mod Asked
pub mod Imported
pub mod Exported
pub mod Faultless
-- Handed on to crates above, which name their lemmas so and needn't list them.
pub use Rattle.session_lines.proofs.line_io_lemmas as line_io_lemmas
