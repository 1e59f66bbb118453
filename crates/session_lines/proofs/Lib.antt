pub mod Serving
pub mod Telling
-- Handed on to crates above, which name their lemmas so and needn't list them.
pub use Rattle.answers.proofs as answers_lemmas
pub use Rattle.line_io.proofs as line_io_lemmas
pub use Rattle.answers.proofs.script_text_lemmas as script_text_lemmas
