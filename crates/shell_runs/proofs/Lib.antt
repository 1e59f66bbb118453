pub mod Ending
-- Handed on to crates above, which name their lemmas so and needn't list them.
pub use Rattle.session_laws.proofs as session_laws_lemmas
