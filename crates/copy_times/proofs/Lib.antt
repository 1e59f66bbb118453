pub mod Touring
pub mod Asked
pub mod Given
pub mod Taken
pub mod Leaving
-- Handed on to crates above, which name their lemmas so and needn't list them.
pub use Rattle.copy_row.proofs as copy_row_lemmas
pub use Rattle.host_attributes.proofs as host_attributes_lemmas
